-- What stays in a cache that is asked and filled.
use Rattle.std.proofs.Common.{◌≡◌, ◌≢◌, ◌-◌, ◌<◌, ◌≤◌, ◌⊎◌, inl, inr, Bool, true, false, cond, List, [], ◌∷◌, length, take, Contains, AllPairs, IfSome, Option, Some, None, refl, sym, ap, subst, ◌∙◌, arith}
use Rattle.std.proofs.lemmas.Bool.{cases_order}
use Rattle.std.proofs.lemmas.List.{take_all, length-take}
use Rattle.std.proofs.lemmas.List.{length-map}
use Rattle.std.proofs.Math.ListN.{get_or-map}
use Rattle.std.proofs.lemmas.Map.Made.{AllPairs-from_IsDistinct}
use Rattle.std.proofs.lemmas.Map.Views.{Contains-from_lookup, lookup-from_Contains}
use Rattle.std.specs.List.{IsDistinct}
use Rattle.std.specs.Map.{lookup, lookup_entry, remove_entry, keys_of}
use Rattle.std.specs.Option.{option_map_or}
use Rattle.lru.specs.LruCache.{LruCache, promoted, put_entries}
use Rattle.lru.proofs.CallerLemmas.{Contains-take}
use Rattle.lru.proofs.Splits.{Contains-head, Contains-tail, Contains-cons}
use Rattle.tm_dd.specs.declared.node.NodeId.{NodeId}
use Rattle.tm_ddops.specs.declared.operation.Operation.{Operation}
use Rattle.tm_ddops.specs.Operation.{operation_eq, operation_Decides, operation_equiv, same_operation}

module _ {K V : Type 0} (test : K → Bool) where
  pub lookup_entry-none : (es : List (K × V)) → lookup test es ≡ None → lookup_entry test es ≡ None
  lookup_entry-none [] h = refl
  lookup_entry-none (f ∷ es) h =
      (elim (test f.0) as (λ y. test f.0 ≡ y → cond y (Some f) (lookup_entry test es) ≡ None) [
        | true ↦ λ t. let found : Some f.1 ≡ None = ap (λ y. cond y (Some f.1) (lookup test es)) (sym t) ∙ h in cc
        | false ↦ λ t. lookup_entry-none es (ap (λ y. cond y (Some f.1) (lookup test es)) (sym t) ∙ h)
      ]) refl

  -- what is no look-up's entry stays where that is removed
  removed_cases : (es : List (K × V)) (f e : K × V) → lookup_entry test es ≡ Some f → Contains es e →
      (f ≡ e) ⊎ Contains (remove_entry test es) e
  removed_cases [] f e h c = cc
  removed_cases (g ∷ es) f e h c =
      (elim (test g.0) as (λ y. test g.0 ≡ y → (f ≡ e) ⊎ Contains (cond y es (g ∷ remove_entry test es)) e) [
        | true ↦ λ t. let found : Some g ≡ Some f = ap (λ y. cond y (Some g) (lookup_entry test es)) (sym t) ∙ h in
            let same : g ≡ f = cc in
            elim (Contains-cons g es e c) [ inl is ↦ inl (sym same ∙ is) | inr rest ↦ inr rest ]
        | false ↦ λ t. let found : lookup_entry test es ≡ Some f =
            ap (λ y. cond y (Some g) (lookup_entry test es)) (sym t) ∙ h in
            elim (Contains-cons g es e c) [
              | inl is ↦ inr (subst (Contains (g ∷ remove_entry test es)) is (Contains-head g (remove_entry test es)))
              | inr rest ↦ elim (removed_cases es f e found rest)
                  [ inl is ↦ inl is | inr d ↦ inr (Contains-tail g (remove_entry test es) e d) ]
            ]
      ]) refl

  to_front : (es : List (K × V)) (o : Option (K × V)) → lookup_entry test es ≡ o → (e : K × V) → Contains es e
      → Contains (option_map_or (λ f. f ∷ remove_entry test es) o es) e
  to_front es None h e c = c
  to_front es (Some f) h e c = elim (removed_cases es f e h c) [
    | inl is ↦ subst (Contains (f ∷ remove_entry test es)) is (Contains-head f (remove_entry test es))
    | inr d ↦ Contains-tail f (remove_entry test es) e d
  ]

  -- an entry that is moved to the front takes no other out
  pub Contains-in_promoted : (es : List (K × V)) (e : K × V) → Contains es e → Contains (promoted test es) e
  Contains-in_promoted es e c = to_front es (lookup_entry test es) refl e c

  pub promoted-none : (es : List (K × V)) → lookup test es ≡ None → promoted test es ≡ es
  promoted-none es h = ap (λ o. option_map_or (λ f. f ∷ remove_entry test es) o es) (lookup_entry-none es h)

module _ {K V : Type 0} (eq : K → K → Bool) (c : LruCache K V) (k : K) (v : V) (absent : lookup (eq k) c.entries ≡ None)
  where
    -- a new entry stands first, and pushes the last out of a full cache
    pub put_entries-absent : put_entries eq c k v ≡ (k, v) ∷ take (c.cap - 1) c.entries
    put_entries-absent =
        ap (λ o. option_map_or (λ e. (e.0, v) ∷ remove_entry (eq k) c.entries) o ((k, v) ∷ take (c.cap - 1) c.entries))
        (lookup_entry-none (eq k) c.entries absent)

    pub put-there : Contains (put_entries eq c k v) (k, v)
    put-there = subst (λ es. Contains es (k, v)) (sym put_entries-absent)
        (Contains-head (k, v) (take (c.cap - 1) c.entries))

    pub put-only : (e : K × V) → Contains (put_entries eq c k v) e → Contains c.entries e ⊎ (e ≡ (k, v))
    put-only e h = elim (Contains-cons (k, v) (take (c.cap - 1) c.entries) e
        (subst (λ es. Contains es e) put_entries-absent h)) [
          | inl is ↦ inr (sym is)
          | inr rest ↦ inl (Contains-take (c.cap - 1) c.entries e rest)
        ]

    module _ (few : length c.entries ≤ c.cap) (room : 0 < c.cap) where
      full : c.cap - 1 < length c.entries → length ((k, v) ∷ take (c.cap - 1) c.entries) ≡ c.cap
      full h = let n = length-take (c.cap - 1) c.entries in omega (arith, n)

      kept_all : length c.entries ≤ c.cap - 1 → (e : K × V) → Contains c.entries e →
          Contains ((k, v) ∷ take (c.cap - 1) c.entries) e
      kept_all h e d = Contains-tail (k, v) (take (c.cap - 1) c.entries) e
          (subst (λ es. Contains es e) (sym (take_all (c.cap - 1) c.entries h)) d)

      pub put-kept : (e : K × V) → Contains c.entries e →
          Contains (put_entries eq c k v) e ⊎ (length (put_entries eq c k v) ≡ c.cap)
      put-kept e d =
          subst (λ es. Contains es e ⊎ (length es ≡ c.cap)) (sym put_entries-absent)
          (elim (cases_order (length c.entries) (c.cap - 1)) [
            | inl is ↦ inl (kept_all (omega (arith, is)) e d)
            | inr o ↦ elim o [ inl below ↦ inl (kept_all (omega (arith, below)) e d) | inr above ↦ inr (full above) ]
          ])

-- ---- at operations

-- no operation stands twice in a list of distinct ones
pub once_from_valid : (es : List (Operation × NodeId)) → IsDistinct operation_eq (keys_of es) →
    AllPairs (λ a b. a.0 ≢ b.0) es
once_from_valid es distinct i j d below within e =
    let many : length (keys_of es) ≡ length es = length-map es (λ (p : Operation × NodeId). p.0) in
    AllPairs-from_IsDistinct operation_Decides (keys_of es) distinct i j d.0 below (omega (arith, many, within))
    (get_or-map (λ (p : Operation × NodeId). p.0) es i d ∙ e
    ∙ sym (get_or-map (λ (p : Operation × NodeId). p.0) es j d))

pub lookup_absent : (es : List (Operation × NodeId)) (o : Operation) → ((id : NodeId) → ¬ Contains es (o, id)) →
    lookup (operation_eq o) es ≡ None
lookup_absent es o absent = by_find (lookup (operation_eq o) es) refl
  where
    by_find : (r : Option NodeId) → lookup (operation_eq o) es ≡ r → lookup (operation_eq o) es ≡ None
    by_find None h = h
    by_find (Some id) h = absurd (absent id (Contains-from_lookup same_operation o id es h))

pub lookup_there : (es : List (Operation × NodeId)) (o : Operation) (id : NodeId) →
    IsDistinct operation_eq (keys_of es) → Contains es (o, id) → lookup (operation_eq o) es ≡ Some id
lookup_there es o id distinct h = lookup-from_Contains operation_equiv o id es distinct h

pub told_from_lookup : (es fs : List (Operation × NodeId)) (o : Operation) (r : Option NodeId) →
    r ≡ lookup (operation_eq o) es
    → ((e : Operation × NodeId) → Contains es e → Contains fs e) → IfSome r (λ id. Contains fs (o, id))
told_from_lookup es fs o None h kept = tt
told_from_lookup es fs o (Some id) h kept = kept (o, id) (Contains-from_lookup same_operation o id es (sym h))

-- What is reached from an id, and how many inner nodes there are.
use Rattle.std.proofs.Common.{◌≡◌, ℕ, zero, suc, ◌+◌, ◌<◌, ◌⊎◌, inl, inr, Bool, true, false, cond, ◌||◌, eqb, List, [], ◌∷◌, Contains, refl, sym, ap, subst, ◌∙◌, arith}
use Rattle.std.proofs.lemmas.Bool.{eqb-true, eq-eqb}
use Rattle.std.proofs.lemmas.Map.Keys.{IsDistinct-cons}
use Rattle.std.proofs.lemmas.Map.Made.{AllPairs-from_IsDistinct}
use Rattle.std.proofs.lemmas.Map.Views.{Contains-from_any, list_any-from_Contains}
use Rattle.std.specs.Bool.{Decides}
use Rattle.std.specs.Cmp.{IsEquivalence, decided}
use Rattle.std.specs.List.{IsDistinct, AllByRecursion, list_any}
use Rattle.lru.proofs.Splits.{Contains-head, Contains-tail, Contains-cons, Contains-nil}
use Rattle.tm_dd.specs.declared.node.NodeId.{NodeId}
use Rattle.tm_dd.specs.NodeId.{number_of, IsConstant}
use Rattle.tm_dd.specs.Reduced.{IsReduced, Extends}
use Rattle.tm_dd.specs.Table.{Table, Knows, node_of}
use Rattle.tm_dd.proofs.CallerLaws.{same_number}
use Rattle.tm_ddops.specs.Choice.{cofactor}
use Rattle.tm_ddops.specs.Reached.{Reaches, itself, through_lo, through_hi, IsGathered, IsInnerNodes, IsOpened}
use Rattle.tm_ddops.proofs.Facts.{is_constant_cases}
use Rattle.tm_ddops.proofs.Choices.{by_cofactor, inner_at}

-- ---- whether two ids are one

abbrev pub id_eq : NodeId → NodeId → Bool
id_eq f g = eqb (number_of f) (number_of g)

pub id_Decides : (f g : NodeId) → Decides (id_eq f g) (f ≡ g)
id_Decides f g = (λ h. same_number f g (eqb-true _ _ h), λ e. eq-eqb _ _ (ap number_of e))

pub id_equiv : IsEquivalence id_eq
id_equiv = decided id_eq id_Decides

-- ---- lists of ids, each once

insert_id : NodeId → List NodeId → List NodeId
insert_id f ids = (elim (list_any (id_eq f) ids) [ true ↦ ids | false ↦ f ∷ ids ])

union : List NodeId → List NodeId → List NodeId
union [] ys = ys
union (x ∷ xs) ys = insert_id x (union xs ys)

none_equal : (test : NodeId → Bool) (xs : List NodeId) → list_any test xs ≡ false →
    AllByRecursion (λ y. test y ≡ false) xs
none_equal test [] h = tt
none_equal test (x ∷ xs) h =
    (first (test x) (list_any test xs) h, none_equal test xs (rest (test x) (list_any test xs) h))
  where
    first : (a b : Bool) → a || b ≡ false → a ≡ false
    first false b h = refl
    first true b h = cc

    rest : (a b : Bool) → a || b ≡ false → b ≡ false
    rest false b h = h
    rest true b h = cc

by_insert : (P : List NodeId → Type 0) (f : NodeId) (ids : List NodeId) → (list_any (id_eq f) ids ≡ true → P ids) →
    (list_any (id_eq f) ids ≡ false → P (f ∷ ids)) → P (insert_id f ids)
unfolding insert_id
by_insert P f ids there absent =
    (elim (list_any (id_eq f) ids)
    as (λ b. list_any (id_eq f) ids ≡ b → P (elim b [ true ↦ ids | false ↦ f ∷ ids ]))
    [ true ↦ there | false ↦ absent ]) refl

insert_id-once : (f : NodeId) (ids : List NodeId) → IsDistinct id_eq ids → IsDistinct id_eq (insert_id f ids)
insert_id-once f ids once =
    by_insert (IsDistinct id_eq) f ids (λ _. once) (λ h. IsDistinct-cons id_eq f ids (none_equal (id_eq f) ids h) once)

insert_id-there : (f : NodeId) (ids : List NodeId) → Contains (insert_id f ids) f
insert_id-there f ids =
    by_insert (λ l. Contains l f) f ids (λ h. Contains-from_any (λ x y. (id_Decides x y).0) f ids h)
    (λ _. Contains-head f ids)

insert_id-kept : (f : NodeId) (ids : List NodeId) (g : NodeId) → Contains ids g → Contains (insert_id f ids) g
insert_id-kept f ids g h = by_insert (λ l. Contains l g) f ids (λ _. h) (λ _. Contains-tail f ids g h)

insert_id-only : (f : NodeId) (ids : List NodeId) (g : NodeId) → Contains (insert_id f ids) g → (f ≡ g) ⊎ Contains ids g
insert_id-only f ids g =
    by_insert (λ l. Contains l g → (f ≡ g) ⊎ Contains ids g) f ids (λ _ h. inr h) (λ _ h. Contains-cons f ids g h)

union-once : (xs ys : List NodeId) → IsDistinct id_eq ys → IsDistinct id_eq (union xs ys)
unfolding union
union-once [] ys once = once
union-once (x ∷ xs) ys once = insert_id-once x (union xs ys) (union-once xs ys once)

union-left : (xs ys : List NodeId) (g : NodeId) → Contains xs g → Contains (union xs ys) g
unfolding union
union-left [] ys g h = absurd (Contains-nil g h)
union-left (x ∷ xs) ys g h = elim (Contains-cons x xs g h) [
  | inl e ↦ subst (Contains (insert_id x (union xs ys))) e (insert_id-there x (union xs ys))
  | inr rest ↦ insert_id-kept x (union xs ys) g (union-left xs ys g rest)
]

union-right : (xs ys : List NodeId) (g : NodeId) → Contains ys g → Contains (union xs ys) g
unfolding union
union-right [] ys g h = h
union-right (x ∷ xs) ys g h = insert_id-kept x (union xs ys) g (union-right xs ys g h)

union-only : (xs ys : List NodeId) (g : NodeId) → Contains (union xs ys) g → Contains xs g ⊎ Contains ys g
unfolding union
union-only [] ys g h = inr h
union-only (x ∷ xs) ys g h = elim (insert_id-only x (union xs ys) g h) [
  | inl e ↦ inl (subst (Contains (x ∷ xs)) e (Contains-head x xs))
  | inr rest ↦ elim (union-only xs ys g rest) [ inl l ↦ inl (Contains-tail x xs g l) | inr r ↦ inr r ]
]

-- ---- the inner nodes of an id

-- a list of ids with what `IsInnerNodes` says, where ids are compared by `==`
record Listed (s : Table) (f : NodeId) (ids : List NodeId) : Type 0 where
  once : IsDistinct id_eq ids
  reached : (g : NodeId) → Contains ids g → Reaches s f g
  inner : (g : NodeId) → Contains ids g → ¬ IsConstant g
  every : (g : NodeId) → Reaches s f g → ¬ IsConstant g → Contains ids g

-- from a constant only itself is reached
pub reaches_constant : (s : Table) (f g : NodeId) → IsConstant f → Reaches s f g → IsConstant g
reaches_constant s f g h (itself _) = h
reaches_constant s f g h (through_lo _ _ inner rest) = absurd (inner h)
reaches_constant s f g h (through_hi _ _ inner rest) = absurd (inner h)

listed_constant : (s : Table) (f : NodeId) → IsConstant f → Listed s f []
unfolding IsDistinct
listed_constant s f h = record {
  once = tt;
  reached = λ g c. absurd (Contains-nil g c);
  inner = λ g c. absurd (Contains-nil g c);
  every = λ g r inner. absurd (inner (reaches_constant s f g h r));
}

listed_node : (s : Table) (f : NodeId) → ¬ IsConstant f → (los his : List NodeId) → Listed s (node_of s f).lo los →
    Listed s (node_of s f).hi his → Listed s f (insert_id f (union los his))
listed_node s f is_inner los his lo hi = record {
  once = insert_id-once f (union los his) (union-once los his hi.once);
  reached = λ g c. elim (insert_id-only f (union los his) g c) [
    | inl e ↦ subst (Reaches s f) e (itself f)
    | inr rest ↦ elim (union-only los his g rest)
        [ inl l ↦ through_lo f g is_inner (lo.reached g l) | inr r ↦ through_hi f g is_inner (hi.reached g r) ]
  ];
  inner = λ g c. elim (insert_id-only f (union los his) g c) [
    | inl e ↦ subst (λ x. ¬ IsConstant x) e is_inner
    | inr rest ↦ elim (union-only los his g rest) [ inl l ↦ lo.inner g l | inr r ↦ hi.inner g r ]
  ];
  every = λ g r inner. every g r inner;
}
  where
    every : (g : NodeId) → Reaches s f g → ¬ IsConstant g → Contains (insert_id f (union los his)) g
    every g (itself _) inner = insert_id-there f (union los his)
    every g (through_lo _ _ _ rest) inner =
        insert_id-kept f (union los his) g (union-left los his g (lo.every g rest inner))
    every g (through_hi _ _ _ rest) inner =
        insert_id-kept f (union los his) g (union-right los his g (hi.every g rest inner))

listed : (s : Table) → IsReduced s → (n : ℕ) (f : NodeId) → number_of f < n → Knows s f →
    (ids : List NodeId) × Listed s f ids
listed s reduced zero f h known = absurd (omega (arith, h))
listed s reduced (suc n) f h known = elim (is_constant_cases f) [
  | inl constant ↦ ([], listed_constant s f constant)
  | inr inner ↦
      let node = reduced.nodes f known inner in
      let lo = listed s reduced n (node_of s f).lo (omega (arith, h, node.lo_smaller)) node.lo_known in
      let hi = listed s reduced n (node_of s f).hi (omega (arith, h, node.hi_smaller)) node.hi_known in
      (insert_id f (union lo.0 hi.0), listed_node s f inner lo.0 hi.0 lo.1 hi.1)
]

-- each known id has a size
pub has_size : (s : Table) → IsReduced s → (f : NodeId) → Knows s f → (ids : List NodeId) × IsInnerNodes s f ids
has_size s reduced f known =
    let l = listed s reduced (number_of f + 1) f (omega arith) known in (
      l.0,
      record {
        once = AllPairs-from_IsDistinct id_Decides l.0 l.1.once;
        reached = l.1.reached;
        inner = l.1.inner;
        every = l.1.every;
      },
    )

-- ---- steps

-- what a cofactor reaches is reached
pub reaches_cofactor : (s : Table) → IsReduced s → (f : NodeId) → Knows s f → (level : ℕ) → level < s.levels →
    (b : Bool) (g : NodeId) → Reaches s (cofactor s f level b) g → Reaches s f g
reaches_cofactor s reduced f known level within true g =
    by_cofactor s reduced f known level within (λ h. Reaches s h g → Reaches s f g) true
    (λ e r. through_hi f g (inner_at s reduced f known level within e) r) (λ _ r. r)
reaches_cofactor s reduced f known level within false g =
    by_cofactor s reduced f known level within (λ h. Reaches s h g → Reaches s f g) false
    (λ e r. through_lo f g (inner_at s reduced f known level within e) r) (λ _ r. r)

-- a store that was extended reaches nothing more from what was known
pub reaches_before : (s t : Table) → IsReduced s → Extends s t → (f g : NodeId) → Knows s f → Reaches t f g →
    Reaches s f g
reaches_before s t reduced e f g known (itself _) = itself f
reaches_before s t reduced e f g known (through_lo _ _ inner rest) =
    let same = ap (λ n. n.lo) (e.same_node f known) in
    through_lo f g inner (subst (λ x. Reaches s x g) same
    (reaches_before s t reduced e (node_of t f).lo g (subst (Knows s) (sym same) (reduced.nodes f known inner).lo_known)
    rest))
reaches_before s t reduced e f g known (through_hi _ _ inner rest) =
    let same = ap (λ n. n.hi) (e.same_node f known) in
    through_hi f g inner (subst (λ x. Reaches s x g) same
    (reaches_before s t reduced e (node_of t f).hi g (subst (Knows s) (sym same) (reduced.nodes f known inner).hi_known)
    rest))

-- ---- gathering

pub gathered_already : (s : Table) (f : NodeId) (ids : List NodeId) → IsConstant f ⊎ Contains ids f →
    IsGathered s f ids ids
gathered_already s f ids there = record { kept = λ g c. c; there = there; opened = λ g c. inl c }

-- the node itself, and then what is gathered from both children
pub gathered : (s : Table) (f : NodeId) → ¬ IsConstant f → (a b c d : List NodeId) → Contains b f →
    ((g : NodeId) → Contains a g → Contains b g) → ((g : NodeId) → Contains b g → (f ≡ g) ⊎ Contains a g) →
    IsGathered s (node_of s f).lo b c → IsGathered s (node_of s f).hi c d → IsGathered s f a d
gathered s f is_inner a b c d there more only lo hi = record {
  kept = λ g h. hi.kept g (lo.kept g (more g h));
  there = inr (hi.kept f (lo.kept f there));
  opened = λ g h. elim (hi.opened g h) [
    | inr o ↦ inr (record { reached = through_hi f g is_inner o.reached; inner = o.inner; lo = o.lo; hi = o.hi })
    | inl in_c ↦ elim (lo.opened g in_c) [
      | inr o ↦ inr (record {
        reached = through_lo f g is_inner o.reached;
        inner = o.inner;
        lo = wider (node_of s g).lo o.lo;
        hi = wider (node_of s g).hi o.hi;
      })
      | inl in_b ↦ elim (only g in_b) [ inl e ↦ inr (subst (IsOpened s f d) e f_opened) | inr in_a ↦ inl in_a ]
    ]
  ];
}
  where
    wider : (g : NodeId) → IsConstant g ⊎ Contains c g → IsConstant g ⊎ Contains d g
    wider g h = elim h [ inl constant ↦ inl constant | inr in_c ↦ inr (hi.kept g in_c) ]

    f_opened : IsOpened s f d f
    f_opened = record {
      reached = itself f;
      inner = is_inner;
      lo = wider (node_of s f).lo lo.there;
      hi = hi.there;
    }

-- a list of opened nodes has all inner nodes that are reached from those in it
reached_there : (s : Table) (root : NodeId) (ids : List NodeId) →
    ((g : NodeId) → Contains ids g → IsOpened s root ids g) →
    (f g : NodeId) → IsConstant f ⊎ Contains ids f → Reaches s f g → ¬ IsConstant g → Contains ids g
reached_there s root ids opened f g there (itself _) inner =
    elim there [ inl constant ↦ absurd (inner constant) | inr in_ids ↦ in_ids ]
reached_there s root ids opened f g there (through_lo _ _ is_inner rest) inner = elim there [
  | inl constant ↦ absurd (is_inner constant)
  | inr in_ids ↦ reached_there s root ids opened (node_of s f).lo g (opened f in_ids).lo rest inner
]
reached_there s root ids opened f g there (through_hi _ _ is_inner rest) inner = elim there [
  | inl constant ↦ absurd (is_inner constant)
  | inr in_ids ↦ reached_there s root ids opened (node_of s f).hi g (opened f in_ids).hi rest inner
]

pub inner_from_gathered : (s : Table) (f : NodeId) (old ids : List NodeId) → old ≡ [] → IsDistinct id_eq ids →
    IsGathered s f old ids → IsInnerNodes s f ids
inner_from_gathered s f old ids empty distinct g = record {
  once = AllPairs-from_IsDistinct id_Decides ids distinct;
  reached = λ h c. (opened h c).reached;
  inner = λ h c. (opened h c).inner;
  every = λ h r inner. reached_there s f ids opened f h g.there r inner;
}
  where
    opened : (h : NodeId) → Contains ids h → IsOpened s f ids h
    opened h c = elim (g.opened h c)
        [ inl was ↦ absurd (Contains-nil h (subst (λ l. Contains l h) empty was)) | inr o ↦ o ]

-- ---- sets of ids

pub in_set : (ids : List NodeId) (g : NodeId) → list_any (id_eq g) ids ≡ true → Contains ids g
in_set ids g h = Contains-from_any (λ x y. (id_Decides x y).0) g ids h

module _ (old new : List NodeId) (f : NodeId)
    (updates : (q : NodeId) → list_any (id_eq q) new ≡ cond (id_eq f q) true (list_any (id_eq q) old)) where
  pub set_there : Contains new f
  set_there = in_set new f (updates f ∙ ap (λ t. cond t true (list_any (id_eq f) old)) (id_equiv.refl f))

  pub set_more : (g : NodeId) → Contains old g → Contains new g
  set_more g h = in_set new g
      (updates g ∙ ap (cond (id_eq f g) true) (list_any-from_Contains id_equiv g old h) ∙ both (id_eq f g))
    where
      both : (b : Bool) → cond b true true ≡ true
      both true = refl
      both false = refl

  pub set_only : (g : NodeId) → Contains new g → (f ≡ g) ⊎ Contains old g
  set_only g h = by_test (id_eq f g) refl (sym (updates g) ∙ list_any-from_Contains id_equiv g new h)
    where
      by_test : (b : Bool) → id_eq f g ≡ b → cond (id_eq f g) true (list_any (id_eq g) old) ≡ true →
          (f ≡ g) ⊎ Contains old g
      by_test true e h = inl ((id_Decides f g).0 e)
      by_test false e h = inr (in_set old g (ap (λ t. cond t true (list_any (id_eq g) old)) (sym e) ∙ h))

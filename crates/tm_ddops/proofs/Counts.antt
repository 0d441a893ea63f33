-- How many choices a walk notes.
use Rattle.std.proofs.Common.{◌≡◌, ℕ, ◌+◌, ◌≤◌, ◌⊎◌, inl, inr, Bool, true, false, ◌||◌, ◌&&◌, List, [], ◌∷◌, ◌++◌, length, Contains, is_some, Result, Ok, Err, OnOk, OnErr, refl, sym, ap, subst, ◌∙◌, arith, length-append}
use Rattle.std.proofs.lemmas.Bool.{eq-eqb}
use Rattle.std.proofs.lemmas.List.{length-map}
use Rattle.std.proofs.lemmas.List.Elements.{Contains-append_left, Contains-append_right}
use Rattle.std.proofs.lemmas.Map.Keys.{IsDistinct-cons}
use Rattle.std.proofs.lemmas.Map.Made.{length-le_from_is_member, is_some-lookup}
use Rattle.std.proofs.lemmas.Map.Views.{Contains-from_any, list_any-from_Contains}
use Rattle.std.specs.Bool.{Decides}
use Rattle.std.specs.Cmp.{IsEquivalence, decided}
use Rattle.std.specs.HashMap.{IsUnique, hash_map_len}
use Rattle.std.specs.List.{AllByRecursion, list_any}
use Rattle.std.specs.Map.{keys_of}
use Rattle.tm_dd.specs.declared.node.NodeId.{NodeId}
use Rattle.tm_dd.specs.NodeId.{number_of}
use Rattle.tm_dd.specs.Table.{Table}
use Rattle.tm_ddops.specs.declared.choice.Choice.{Choice}
use Rattle.tm_ddops.specs.Inner.Memo.{Memo, choice_eq, HasOpen, IsUnnoted, NotesOnlyMet, RisesByNotes}
use Rattle.tm_ddops.proofs.Walks.{same_choice}

choice_eq-refl : (a : Choice) → choice_eq a a ≡ true
choice_eq-refl a =
    λ i. eq-eqb (number_of a.test) (number_of a.test) refl i
    && (eq-eqb (number_of a.if_true) (number_of a.if_true) refl i
    && eq-eqb (number_of a.if_false) (number_of a.if_false) refl i)

choice_Decides : (a b : Choice) → Decides (choice_eq a b) (a ≡ b)
choice_Decides a b = (same_choice a b, λ e. subst (λ x. choice_eq a x ≡ true) e (choice_eq-refl a))

choice_equiv : IsEquivalence choice_eq
choice_equiv = decided choice_eq choice_Decides

none_equal : (test : Choice → Bool) (xs : List Choice) → list_any test xs ≡ false →
    AllByRecursion (λ y. test y ≡ false) xs
none_equal test [] h = tt
none_equal test (x ∷ xs) h =
    (first (test x) (list_any test xs) h, none_equal test xs (rest (test x) (list_any test xs) h))
  where
    first : (a b : Bool) → a || b ≡ false → a ≡ false
    first false b h = refl
    first true b h = cc

    rest : (a b : Bool) → a || b ≡ false → b ≡ false
    rest false b h = h
    rest true b h = cc

either_true : (a b : Bool) → a || b ≡ true → (a ≡ true) ⊎ (b ≡ true)
either_true true b h = inl refl
either_true false b h = inr h

module _ (s : Table) (k : Choice) (old new : Memo) (unique : IsUnique choice_eq new)
    (met : NotesOnlyMet s k old new) (choices : List Choice) (has : HasOpen s k choices) where
  -- a choice that is noted was so before, or is in the list
  noted_is_there : (q : Choice) → list_any (choice_eq q) (keys_of new.entries) ≡ true →
      Contains (keys_of old.entries ++ choices) q
  noted_is_there q h = elim (met q (is_some-lookup (choice_eq q) new.entries ∙ h)) [
    | inl was ↦ Contains-append_left (keys_of old.entries) choices q
        (Contains-from_any same_choice q (keys_of old.entries)
        (sym (is_some-lookup (choice_eq q) old.entries) ∙ was))
    | inr there ↦ Contains-append_right (keys_of old.entries) choices q (has q there.0 there.1)
  ]

  many : length (keys_of old.entries ++ choices) ≡ hash_map_len old + length choices
  many = length-append (keys_of old.entries) choices
      ∙ ap (λ n. n + length choices) (length-map old.entries (λ (e : Choice × NodeId). e.0))

  -- the notes grew by no more than the open choices
  notes_within : hash_map_len new ≤ hash_map_len old + length choices
  notes_within =
      let few = length-le_from_is_member choice_equiv (keys_of new.entries) (keys_of old.entries ++ choices) unique
      (λ q h. list_any-from_Contains choice_equiv q (keys_of old.entries ++ choices) (noted_is_there q h)) in
      omega (arith, few, many, length-map new.entries (λ e. e.0))

  -- and by fewer, where one is not noted
  notes_below : IsUnnoted s k new → hash_map_len new + 1 ≤ hash_map_len old + length choices
  notes_below u =
      let apart = none_equal (choice_eq u.choice) (keys_of new.entries)
      (sym (is_some-lookup (choice_eq u.choice) new.entries) ∙ ap is_some u.absent) in
      let few = length-le_from_is_member choice_equiv (u.choice ∷ keys_of new.entries) (keys_of old.entries ++ choices)
      (IsDistinct-cons choice_eq u.choice (keys_of new.entries) apart unique)
      (λ q h. list_any-from_Contains choice_equiv q (keys_of old.entries ++ choices)
      (elim (either_true _ _ h) [
        | inl e ↦ subst (Contains (keys_of old.entries ++ choices)) (sym (same_choice q u.choice e))
            (Contains-append_right (keys_of old.entries) choices u.choice (has u.choice u.met u.open_))
        | inr rest ↦ noted_is_there q rest
      ])) in
      omega (arith, few, many, length-map new.entries (λ e. e.0))

  -- a number that rises by the notes rises by no more than the open choices
  pub rises_within : {T E : Type 0} (r : Result T E) (before after : ℕ)
      → OnOk r (RisesByNotes old new 0 before after) → OnErr r (RisesByNotes old new 1 before after) →
      OnErr r (IsUnnoted s k new)
      → after ≤ before + length choices
  rises_within (Ok x) before after ok err unnoted = omega (arith, ok, notes_within)
  rises_within (Err x) before after ok err unnoted = omega (arith, err, notes_below unnoted)

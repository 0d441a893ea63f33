-- Which ids have entries, by what a set of ids tells.
use Rattle.std.proofs.Common.{◌≡◌, ◌≢◌, ℕ, zero, suc, Bool, true, false, eqb, ◌||◌, List, [], ◌∷◌, slice_get, Some, refl, sym, ap, ◌∙◌, arith, true≢false}
use Rattle.std.specs.Prelude.{position}
use Rattle.std.specs.List.{list_any}
use Rattle.std.proofs.lemmas.Bool.{eqb-false, eqb-true, eq-eqb, or_parts}
use Rattle.std.proofs.lemmas.List.Quantifiers.{position-Some}
use Rattle.std.proofs.lemmas.Option.{none-some, same_Some, slice_get-get_or}
use Rattle.tm_dd.specs.declared.node.NodeId.{NodeId}
use Rattle.tm_dd.specs.NodeId.{IsConstant, number_of}
use Rattle.tm_dd.proofs.CallerLaws.{same_number}
use Rattle.tm_numbering.specs.Inner.Found.{IsAbsent}

-- `==` of ids
abbrev pub id_eq : NodeId → NodeId → Bool
id_eq a b = eqb a.0 b.0

id_eq-true : (a b : NodeId) → id_eq a b ≡ true → a ≡ b
id_eq-true a b e = same_number a b (eqb-true _ _ e)

-- an id that is neither constant
pub not_constant : (id : NodeId) → false ≡ eqb id.0 0 → false ≡ eqb id.0 1 → ¬ IsConstant id
not_constant id first second low =
    let some : id.0 ≢ 0 = eqb-false _ _ (sym first) in
    let more : id.0 ≢ 1 = eqb-false _ _ (sym second) in
    omega (arith, some, more, low)

-- an id stands where it was found
pub found_at : (ids : List NodeId) (id : NodeId) (at : ℕ) → position (id_eq id) ids ≡ Some at →
    slice_get ids at ≡ Some id
found_at ids id at found =
    let there = position-Some (id_eq id) ids at id found in
    slice_get-get_or ids at id there.0 ∙ ap Some (sym (id_eq-true id _ there.1))

-- an id that is equal to none is absent
pub absent_from : (id : NodeId) (ids : List NodeId) → list_any (id_eq id) ids ≡ false → IsAbsent ids id
absent_from id [] none k at = none-some id at
absent_from id (x ∷ xs) none zero at =
    let same : x ≡ id = same_Some x id at in
    true≢false (sym (eq-eqb _ _ (ap (λ (y : NodeId). number_of y) (sym same)))
    ∙ (or_parts (id_eq id x) (list_any (id_eq id) xs) none).0)
absent_from id (x ∷ xs) none (suc k) at =
    absent_from id xs (or_parts (id_eq id x) (list_any (id_eq id) xs) none).1 k at

-- and an absent one is equal to none
pub absent_any : (id : NodeId) (ids : List NodeId) → IsAbsent ids id → list_any (id_eq id) ids ≡ false
absent_any id [] absent = refl
absent_any id (x ∷ xs) absent = by (id_eq id x) refl (absent_any id xs (λ k at. absent (suc k) at))
  where
    by : (b : Bool) → id_eq id x ≡ b → list_any (id_eq id) xs ≡ false → list_any (id_eq id) (x ∷ xs) ≡ false
    by true e rest = absurd (absent zero (ap Some (sym (id_eq-true id x e))))
    by false e rest = ap (λ (b : Bool). b || list_any (id_eq id) xs) e ∙ rest

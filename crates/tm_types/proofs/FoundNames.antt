-- The first of the faults at names in some parts, found part by part in a loop.
use Rattle.std.proofs.Common.{◌≡◌, ℕ, ◌+◌, ◌<◌, ◌≤◌, Option, List, length, take, map, get_or, sym, ap, ◌∙◌}
use Rattle.std.specs.List.{flat_map}
use Rattle.std.proofs.lemmas.List.{take_all}
use Rattle.std.proofs.lemmas.List.Folds.{flat_map-map}
use Rattle.tm_syntax.specs.Places.{earliest_of}
use Rattle.tm_syntax.specs.Faults.Marks.{Mark, first_mark}
use Rattle.tm_names.proofs.BodyParts.{flat_map-flat_map}
use Rattle.tm_names.proofs.FirstFaults.{first_more}

module _ {X Y : Type 0} (faults : Y → List Mark) (view : X → Y) where
  -- the first fault that the parts before a number hold
  abbrev pub found_before : List X → ℕ → Option Mark
  found_before xs i = first_mark (flat_map (λ x. faults (view x)) (take i xs))

  -- one more part of a slice
  pub found_more : (xs : List X) (i : ℕ) (x : X) {old here new : Option Mark} → i < length xs → x ≡ get_or xs i x →
      here ≡ first_mark (faults (view x)) → new ≡ earliest_of (λ (m : Mark). m.place) old here →
      old ≡ found_before xs i → new ≡ found_before xs (i + 1)
  found_more xs i x {old} {here} {new} within is found joined before =
      first_more (λ (m : Mark). m.place) (λ y. faults (view y)) xs i x old here new within is found joined before

  -- all parts of a slice
  pub found_all : (xs : List X) (i : ℕ) {found : Option Mark} → length xs ≤ i → found ≡ found_before xs i →
      found ≡ first_mark (flat_map faults (map view xs))
  found_all xs i past before =
      before
      ∙ ap (λ ys. first_mark (flat_map (λ y. faults (view y)) ys)) (take_all i xs past)
      ∙ ap first_mark (sym (flat_map-map faults view xs))

-- all parts of a slice, each seen as it is
pub bare_all : {X : Type 0} (faults : X → List Mark) (xs : List X) (i : ℕ) {found : Option Mark} → length xs ≤ i →
    found ≡ found_before faults (λ x. x) xs i → found ≡ first_mark (flat_map faults xs)
bare_all faults xs i past before = before ∙ ap (λ ys. first_mark (flat_map faults ys)) (take_all i xs past)

-- all parts of a slice, each of which holds several
pub found_held : {X Y : Type 0} (faults : Y → List Mark) (held : X → List Y) (xs : List X) (i : ℕ)
    {found : Option Mark} → length xs ≤ i → found ≡ found_before (λ x. flat_map faults (held x)) (λ x. x) xs i →
    found ≡ first_mark (flat_map faults (flat_map held xs))
found_held faults held xs i past before =
    bare_all (λ x. flat_map faults (held x)) xs i past before ∙ ap first_mark (sym (flat_map-flat_map faults held xs))

-- The first of the places of some parts, found part by part in a loop.
use Rattle.std.proofs.Common.{◌≡◌, ℕ, ◌+◌, ◌<◌, ◌≤◌, Option, List, length, take, map, get_or, sym, ap, ◌∙◌}
use Rattle.std.specs.List.{flat_map}
use Rattle.std.proofs.lemmas.List.{take_all}
use Rattle.std.proofs.lemmas.List.Folds.{flat_map-map}
use Rattle.tm_base.specs.declared.place.Place.{Place}
use Rattle.tm_syntax.specs.Places.{earliest_of}
use Rattle.tm_types.specs.Firsts.{first_of}
use Rattle.tm_names.proofs.BodyParts.{flat_map-flat_map}
use Rattle.tm_names.proofs.FirstFaults.{first_more}

module _ {X Y : Type 0} (faults : Y → List Place) (view : X → Y) where
  -- the first place that the parts before a number hold
  abbrev pub found_before : List X → ℕ → Option Place
  found_before xs i = first_of (flat_map (λ x. faults (view x)) (take i xs))

  -- one more part of a slice
  pub found_more : (xs : List X) (i : ℕ) (x : X) {old here new : Option Place} → i < length xs → x ≡ get_or xs i x →
      here ≡ first_of (faults (view x)) → new ≡ earliest_of (λ (at : Place). at) old here →
      old ≡ found_before xs i → new ≡ found_before xs (i + 1)
  found_more xs i x {old} {here} {new} within is found joined before =
      first_more (λ (at : Place). at) (λ y. faults (view y)) xs i x old here new within is found joined before

  -- all parts of a slice
  pub found_whole : (xs : List X) (i : ℕ) {found : Option Place} → length xs ≤ i → found ≡ found_before xs i →
      found ≡ first_of (flat_map (λ x. faults (view x)) xs)
  found_whole xs i past before =
      before ∙ ap (λ ys. first_of (flat_map (λ y. faults (view y)) ys)) (take_all i xs past)

  -- all parts of a slice, seen as what they stand for
  pub found_all : (xs : List X) (i : ℕ) {found : Option Place} → length xs ≤ i → found ≡ found_before xs i →
      found ≡ first_of (flat_map faults (map view xs))
  found_all xs i past before = found_whole xs i past before ∙ ap first_of (sym (flat_map-map faults view xs))

  -- all parts of a slice, which was taken of a list that stands for a whole
  pub found_listed : (slice items : List X) (whole : List Y) (i : ℕ) {found : Option Place} → slice ≡ items →
      map view items ≡ whole → length slice ≤ i → found ≡ found_before slice i →
      found ≡ first_of (flat_map faults whole)
  found_listed slice items whole i same viewed past before =
      found_all slice i past before ∙ ap (λ ys. first_of (flat_map faults ys)) (ap (map view) same ∙ viewed)

-- all parts of a slice, each of which holds several
pub found_held : {X Y : Type 0} (faults : Y → List Place) (held : X → List Y) (xs : List X) (i : ℕ)
    {found : Option Place} → length xs ≤ i → found ≡ found_before (λ x. flat_map faults (held x)) (λ x. x) xs i →
    found ≡ first_of (flat_map faults (flat_map held xs))
found_held faults held xs i past before =
    found_whole (λ x. flat_map faults (held x)) (λ x. x) xs i past before
    ∙ ap first_of (sym (flat_map-flat_map faults held xs))

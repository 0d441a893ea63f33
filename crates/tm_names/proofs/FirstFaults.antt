-- The steps of a search for the first fault.
use Rattle.std.proofs.Common.{◌≡◌, ℕ, ◌+◌, ◌<◌, Option, List, [], ◌++◌, length, take, get_or, sym, ap, ◌∙◌}
use Rattle.std.specs.List.{flat_map}
use Rattle.std.proofs.lemmas.List.{take_more, flat_map_more}
use Rattle.tm_base.specs.declared.place.Place.{Place}
use Rattle.tm_syntax.specs.Places.{earliest, earliest_of}
use Rattle.tm_syntax.proofs.Places.{earliest-append}

-- what the parts so far hold
pub flat_map-take : {X Y : Type 0} (f : X → List Y) (xs : List X) (i : ℕ) (x : X) →
    i < length xs → x ≡ get_or xs i x → flat_map f (take (i + 1) xs) ≡ flat_map f (take i xs) ++ f x
flat_map-take f xs i x within is =
    ap (flat_map f) (take_more xs i x within)
    ∙ sym (flat_map_more f [] (take i xs) (get_or xs i x))
    ∙ ap (λ y. flat_map f (take i xs) ++ f y) (sym is)

-- the first that the parts so far hold
pub first_more : {X Y : Type 0} (place : Y → Place) (f : X → List Y) (xs : List X) (i : ℕ) (x : X)
    (old here new : Option Y) → i < length xs → x ≡ get_or xs i x → here ≡ earliest place (f x) →
    new ≡ earliest_of place old here → old ≡ earliest place (flat_map f (take i xs)) →
    new ≡ earliest place (flat_map f (take (i + 1) xs))
first_more place f xs i x old here new within is found joined before =
    joined
    ∙ ap (λ o. earliest_of place o here) before
    ∙ ap (earliest_of place (earliest place (flat_map f (take i xs)))) found
    ∙ sym (earliest-append place (flat_map f (take i xs)) (f x))
    ∙ ap (earliest place) (sym (flat_map-take f xs i x within is))

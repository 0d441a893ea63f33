-- Places in a text, and the earliest of several things by their places.
use Rattle.std.specs.Prelude.{Bool, ◌||◌, ◌&&◌, Option, None, Some, List, [], ◌∷◌, nat_eq, nat_lt, if◌then◌else◌}
use Rattle.tm_base.specs.declared.place.Place.{Place}

-- the first place of a text
abbrev pub text_start : Place
text_start = record { line = 1; column = 1 }

-- whether a place stands before another one
abbrev pub is_before : Place → Place → Bool
is_before a b = nat_lt a.line b.line || (nat_eq a.line b.line && nat_lt a.column b.column)

-- the earlier of two by their places, the first of them where these are one
abbrev pub earlier : {X : Type 0} → (X → Place) → X → Option X → X
earlier place x None = x
earlier place x (Some y) = if is_before (place y) (place x) then y else x

-- the earliest of some by their places, the first of them where several stand at one place
abbrev pub earliest : {X : Type 0} → (X → Place) → List X → Option X
earliest place [] = None
earliest place (x ∷ xs) = Some (earlier place x (earliest place xs))

-- the earlier of two that may be there
abbrev pub earliest_of : {X : Type 0} → (X → Place) → Option X → Option X → Option X
earliest_of place None other = other
earliest_of place (Some x) other = Some (earlier place x other)

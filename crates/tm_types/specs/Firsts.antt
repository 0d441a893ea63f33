-- The first of the places of some faults.
use Rattle.std.specs.Prelude.{Option, List}
use Rattle.tm_base.specs.declared.place.Place.{Place}
use Rattle.tm_syntax.specs.Places.{earliest}

-- the first of some places
abbrev pub first_of : List Place → Option Place
first_of places = earliest (λ (at : Place). at) places

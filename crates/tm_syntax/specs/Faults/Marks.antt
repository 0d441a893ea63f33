-- Where a fault lies and what it says, and the first of several faults.
use Rattle.std.specs.Prelude.{Bool, Option, List, [], ◌∷◌, if◌then◌else◌}
use Rattle.std.specs.Option.{option_map}
use Rattle.tm_base.specs.declared.place.Place.{Place}
use Rattle.tm_syntax.specs.declared.tree.Ident.{Ident}
use Rattle.tm_syntax.specs.declared.fault.Detail.{Detail}
use Rattle.tm_syntax.specs.declared.fault.Detail.TheVariants as detail
use Rattle.tm_syntax.specs.Places.{earliest}

-- a fault of some kind: its place, and what it says beside it
pub record Mark : Type 0 where
  pub place : Place
  pub detail : Detail

-- a fault at a place that says nothing more
abbrev pub marked : Place → Mark
marked at = record { place = at; detail = detail.Nothing }

-- a fault at a name, which it tells
abbrev pub named : Ident → Mark
named name = record { place = name.place; detail = detail.Named name.text }

-- a place, unless all is well there
abbrev pub place_unless : Bool → Place → List Place
place_unless fits at = if fits then [] else (at ∷ [])

-- the first of some faults
abbrev pub first_mark : List Mark → Option Mark
first_mark marks = earliest (λ (m : Mark). m.place) marks

-- the first of some faults that say nothing but their places
abbrev pub first_place : List Place → Option Mark
first_place places = option_map marked (earliest (λ (at : Place). at) places)

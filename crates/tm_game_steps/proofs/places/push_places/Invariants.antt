use Rattle.tm_game_steps.specs.Inner.Below.{ArePlacesBelow}
use Rattle.tm_game_steps.specs.Places.{flags_of}
use Rattle.tm_game_steps.proofs.places.push_places.Given as goal
use Rattle.tm_term.specs.Value.{Extends}

abbrev pub invariant-loop-location : goal.invariant-loop-location
invariant-loop-location l = record {
  extends : Extends l.fn.terms l.terms;
  below : ArePlacesBelow l.terms (flags_of l.magic) l.first l.process l.location l.places.items;
}

use Rattle.tm_game_steps.specs.Inner.Below.{ArePlacesBelow}
use Rattle.tm_game_steps.specs.Places.{flags_of}
use Rattle.tm_game_steps.proofs.places.place_terms.Given as goal
use Rattle.tm_term.specs.Value.{Extends}

abbrev pub invariant-loop-process : goal.invariant-loop-process
invariant-loop-process l = record {
  extends : Extends l.fn.terms l.terms;
  below : ArePlacesBelow l.terms (flags_of l.magic) l.first l.process 0 l.places.items;
}

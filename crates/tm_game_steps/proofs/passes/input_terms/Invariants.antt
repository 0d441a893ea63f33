use Rattle.tm_game_steps.specs.Inner.Inputs.{AreInputTerms}
use Rattle.tm_game_steps.proofs.passes.input_terms.Given as goal
use Rattle.tm_term.specs.Value.{Extends}

abbrev pub invariant-loop-input : goal.invariant-loop-input
invariant-loop-input l = record {
  extends : Extends l.fn.terms l.terms;
  inputs : AreInputTerms l.terms l.input l.ids.items;
}

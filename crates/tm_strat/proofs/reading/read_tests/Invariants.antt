use Rattle.tm_strat.specs.Tested.{AreTestsOf}
use Rattle.tm_strat_drafts.specs.Growth.{Carried}
use Rattle.tm_strat.proofs.reading.read_tests.Given as goal
use Rattle.tm_syntax.specs.Design.View.{design_tree}

abbrev pub invariant-loop-predicate : goal.invariant-loop-predicate
invariant-loop-predicate l = record {
  grows : Carried l.fn.game l.game;
  tests : AreTestsOf (design_tree l.design) l.game l.counts l.predicates l.diagrams.items l.predicate-index;
}

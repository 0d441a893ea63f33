use Rattle.std.proofs.Common.{length}
use Rattle.tm_solve_exact.specs.Exact.{IsExactOf}
use Rattle.tm_strat.specs.Tested.{AreTestSets, AreTestsOf, StayFew}
use Rattle.tm_strat.specs.declared.numbers.Counts.{Counts}
use Rattle.tm_strat_drafts.specs.Growth.{Carried}
use Rattle.tm_strat.proofs.tables.push_telling.Given as goal
use Rattle.tm_syntax.specs.Design.{DesignTree}

abbrev pub invariant-loop-index : goal.invariant-loop-index
invariant-loop-index l = record {
  grows : Carried l.fn.game l.game;
  sets : (d : DesignTree) (c : Counts) → IsExactOf d l.fn.game →
      AreTestsOf d l.fn.game c l.all l.holds (length l.all) →
      AreTestSets d l.fn.game c l.fn.tests.predicates.items l.fn.tests.holds.items →
      AreTestSets d l.game c l.tests.predicates.items l.tests.holds.items;
  few : StayFew l.fn.tests.predicates.items l.tests.predicates.items;
}

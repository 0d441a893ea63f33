use Rattle.std.proofs.Common.{length}
use Rattle.tm_solve_exact.proofs.Growing.{kept_exact}
use Rattle.tm_strat.proofs.Carrying.{grown}
use Rattle.tm_strat.proofs.Testing.{test_there}
use Rattle.tm_strat.proofs.tables.push_telling.Goals as goal

pub loop-index-init : goal.loop-index-init
loop-index-init c = record {
  grows = λ base b. b;
  sets = λ d e is read sets. sets;
  few = λ small. small;
}

pub loop-index-preserved : goal.loop-index-preserved
loop-index-preserved c = record {
  grows = λ base b. c.push_test.ensures.grows base (c.loop-index.invariant.grows base b);
  sets = λ d e is read sets.
      let to_m = grown c.args.game.now c.loop-index.game c.loop-index.invariant.grows in
      c.in_ok-push_test.ensures.sets d e (kept_exact d c.args.game.now is c.loop-index.game to_m)
      (test_there d c.args.game.now c.loop-index.game to_m e c.args.all.now c.args.holds.now (length c.args.all.now)
      c.loop-index.index _ c.id_at-there.result read c.loop-index-test.true c.loop-index-test.true
      c.id_at-there.ensures)
      (c.loop-index.invariant.sets d e is read sets);
  few = λ small. c.in_ok-push_test.ensures.few (c.loop-index.invariant.few small);
}

pub returns-clause-sets : goal.returns-clause-sets
returns-clause-sets c = c.loop-index.invariant.sets

pub returns-clause-few : goal.returns-clause-few
returns-clause-few c = c.loop-index.invariant.few

use Rattle.tm_game.proofs.Growing.{grows_none, grows_then}
use Rattle.test_game.proofs.states.sets.set_of.Goals as goal

pub loop-part-init : goal.loop-part-init
loop-part-init c = record {
  grows = grows_none c.args.game.now;
  set = c.constant_set-set.ensures c.args.game.now;
}

pub loop-part-preserved : goal.loop-part-preserved
loop-part-preserved c = record {
  grows = grows_then _ _ _ c.loop-part.invariant.grows c.longer.ensures.grows;
  set = c.in_ok-set.ensures.set;
}

pub returns-in_err-set-clause-grows : goal.returns-in_err-set-clause-grows
returns-in_err-set-clause-grows c = grows_then _ _ _ c.loop-part.invariant.grows c.longer.ensures.grows

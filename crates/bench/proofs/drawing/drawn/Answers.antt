use Rattle.std.proofs.Common.{◌||◌}
use Rattle.tm_game.proofs.Growing.{grows_none, grows_then, set_kept}
use Rattle.tm_game.proofs.MadeSets.{false_set, pair_made}
use Rattle.bench.proofs.drawing.drawn.Goals as goal

pub loop-cube-init : goal.loop-cube-init
loop-cube-init c = record { grows = grows_none c.args.game.now; set = false_set c.args.game.now }

pub returns-in_err-cube-clause-grows : goal.returns-in_err-cube-clause-grows
returns-in_err-cube-clause-grows c = grows_then _ _ _ c.loop-cube.invariant.grows c.cube.ensures.grows

pub or-requires-clause-f : goal.or-requires-clause-f
or-requires-clause-f c =
    (set_kept c.loop-cube.game c.cube.new.game c.cube.ensures.grows c.loop-cube.set c.loop-cube.invariant.set).known

pub returns-in_err-set-clause-grows : goal.returns-in_err-set-clause-grows
returns-in_err-set-clause-grows c =
    grows_then _ _ _ (grows_then _ _ _ c.loop-cube.invariant.grows c.cube.ensures.grows) c.or.ensures.grows

pub loop-cube-preserved : goal.loop-cube-preserved
loop-cube-preserved c = record {
  grows = grows_then _ _ _ (grows_then _ _ _ c.loop-cube.invariant.grows c.cube.ensures.grows) c.or.ensures.grows;
  set = pair_made c.cube.new.game c.or.new.self c.or.ensures.grows (λ x y. x || y) c.loop-cube.set c.in_ok-cube.cube
      c.in_ok-set.set
      (set_kept c.loop-cube.game c.cube.new.game c.cube.ensures.grows c.loop-cube.set c.loop-cube.invariant.set)
      c.in_ok-cube.ensures.set c.in_ok-set.ensures.answer;
}

pub returns-clause-grows : goal.returns-clause-grows
returns-clause-grows c = c.loop-cube.invariant.grows

pub returns-clause-set : goal.returns-clause-set
returns-clause-set c = c.loop-cube.invariant.set

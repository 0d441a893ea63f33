use Rattle.std.proofs.Common.{◌&&◌}
use Rattle.tm_game.proofs.Growing.{grows_none, grows_then, set_kept}
use Rattle.tm_game.proofs.MadeSets.{true_set, pair_made}
use Rattle.bench.proofs.drawing.cube.Goals as goal

pub loop-bit-init : goal.loop-bit-init
loop-bit-init c = record { grows = grows_none c.args.game.now; set = true_set c.args.game.now }

pub returns-in_err-bit-clause-grows : goal.returns-in_err-bit-clause-grows
returns-in_err-bit-clause-grows c = grows_then _ _ _ c.loop-bit.invariant.grows c.bit.ensures.grows

pub and-requires-clause-f : goal.and-requires-clause-f
and-requires-clause-f c =
    (set_kept c.loop-bit.game c.bit.new.game c.bit.ensures.grows c.loop-bit.cube c.loop-bit.invariant.set).known

pub returns-in_err-cube-clause-grows : goal.returns-in_err-cube-clause-grows
returns-in_err-cube-clause-grows c =
    grows_then _ _ _ (grows_then _ _ _ c.loop-bit.invariant.grows c.bit.ensures.grows) c.and.ensures.grows

pub loop-bit-preserved : goal.loop-bit-preserved
loop-bit-preserved c = record {
  grows = grows_then _ _ _ (grows_then _ _ _ c.loop-bit.invariant.grows c.bit.ensures.grows) c.and.ensures.grows;
  set = pair_made c.bit.new.game c.and.new.self c.and.ensures.grows (λ x y. x && y) c.loop-bit.cube c.in_ok-bit.bit
      c.in_ok-cube.cube
      (set_kept c.loop-bit.game c.bit.new.game c.bit.ensures.grows c.loop-bit.cube c.loop-bit.invariant.set)
      c.in_ok-bit.ensures.set c.in_ok-cube.ensures.answer;
}

pub returns-clause-grows : goal.returns-clause-grows
returns-clause-grows c = c.loop-bit.invariant.grows

pub returns-clause-set : goal.returns-clause-set
returns-clause-set c = c.loop-bit.invariant.set

use Rattle.std.proofs.Common.{refl}
use Rattle.tm_game_bits.proofs.LeastValues.{narrowed_more}
use Rattle.tm_game_bits.proofs.narrowing.narrowed.Goals as goal

pub loop-level-preserved : goal.loop-level-preserved
loop-level-preserved c =
    narrowed_more c.args.dd.now.table c.loop-level.dd.table c.cleared.new.dd.table c.args.f c.loop-level.narrow
    c.in_ok-narrow.narrow c.args.levels.now c.loop-level.level-index _ c.requires.known c.loop-level-test.true refl
    c.cleared.ensures.extends c.loop-level.invariant c.in_ok-narrow.ensures.answer

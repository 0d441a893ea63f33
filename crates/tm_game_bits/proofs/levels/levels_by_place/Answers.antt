use Rattle.std.proofs.Common.{refl, arith}
use Rattle.tm_game_bits.proofs.Orders.{place_within, placed_all, placed_more}
use Rattle.tm_game_bits.proofs.levels.levels_by_place.Goals as goal

pub index_mut-requires : goal.index_mut-requires
index_mut-requires c =
    let within = place_within c.args.order.now c.loop-level.levels.items c.loop-level.level _ c.requires.order
    c.loop-level-test.true refl c.loop-level.invariant in
    grind (arith, within)

pub loop-level-preserved : goal.loop-level-preserved
loop-level-preserved c =
    placed_more c.args.order.now c.loop-level.levels.items c.loop-level.level _ c.requires.order c.loop-level-test.true
    refl c.loop-level.invariant

pub returns : goal.returns
returns c =
    placed_all c.args.order.now c.loop-level.levels.items c.loop-level.level c.requires.order c.loop-level-test.false
    c.loop-level.invariant

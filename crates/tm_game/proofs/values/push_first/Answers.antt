use Rattle.std.proofs.Common.{arith}
use Rattle.tm_game.proofs.Writing.{bit_put, bits_put}
use Rattle.tm_game.proofs.values.push_first.Goals as goal

pub loop-place-preserved : goal.loop-place-preserved
loop-place-preserved c =
    bit_put c.args.bits.now c.args.count c.loop-place.place c.bit_at.result c.loop-place.values.items
    c.push.new.self.items _ c.loop-place-test.true c.bit_at.ensures c.in_ok-push.ensures.items
    c.loop-place.invariant

pub returns : goal.returns
returns c =
    bits_put c.args.bits.now c.args.count c.loop-place.place c.loop-place.values.items _
    (omega (arith, c.loop-place-test.false)) c.loop-place.invariant

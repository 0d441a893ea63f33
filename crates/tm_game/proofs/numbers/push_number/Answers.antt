use Rattle.std.proofs.Common.{arith}
use Rattle.tm_game.proofs.Writing.{bit_written, bits_written}
use Rattle.tm_game.proofs.numbers.push_number.Goals as goal

pub loop-passed-preserved : goal.loop-passed-preserved
loop-passed-preserved c =
    bit_written c.args.width c.args.number c.loop-passed.passed c.has_bit.result c.loop-passed.bits.items
    c.push.new.self.items _ c.loop-passed-test.true c.has_bit.ensures c.in_ok-push.ensures.items
    c.loop-passed.invariant

pub returns : goal.returns
returns c =
    bits_written c.args.width c.args.number c.loop-passed.passed c.loop-passed.bits.items _
    (omega (arith, c.loop-passed-test.false)) c.loop-passed.invariant

use Rattle.std.proofs.Common.{arith}
use Rattle.tm_game_bits.proofs.Pieces.{bits_all, bits_more}
use Rattle.tm_game_bits.proofs.inputs.push_bits.Goals as goal

pub loop-bit-preserved : goal.loop-bit-preserved
loop-bit-preserved c =
    bits_more c.args.levels.now.items c.push.new.self.items c.loop-bit.levels.items c.args.first c.loop-bit.bit
    c.in_ok-level.level c.loop-bit.invariant c.in_ok-level.ensures.items c.in_ok-push.ensures.items

pub returns : goal.returns
returns c =
    bits_all c.args.levels.now.items c.loop-bit.levels.items c.args.first c.loop-bit.bit c.loop-bit-test.false
    (omega (arith, c.loop-bit.auto.bit-end)) c.loop-bit.invariant

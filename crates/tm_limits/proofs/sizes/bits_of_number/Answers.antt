use Rattle.std.proofs.Common.{◌<◌, arith}
use Rattle.tm_limits.proofs.Bits.{bits_found, bits_more}
use Rattle.tm_limits.proofs.sizes.bits_of_number.Goals as goal

pub returns-then-number-bits-eq0 : goal.returns-then-number-bits-eq0
returns-then-number-bits-eq0 c = λ n is.
    let below : c.loop-bits.bits < 64 = omega arith in
    bits_found c.args.number n c.loop-bits.bits is below c.if-number-bits-eq0.true (c.loop-bits.invariant n is)

pub loop-bits-preserved : goal.loop-bits-preserved
loop-bits-preserved c = λ n is.
    let below : c.loop-bits.bits < 64 = omega arith in
    bits_more c.args.number n c.loop-bits.bits is below c.if-number-bits-eq0.false (c.loop-bits.invariant n is)

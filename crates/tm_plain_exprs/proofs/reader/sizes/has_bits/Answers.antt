use Rattle.tm_plain_exprs.proofs.Bits.{bits_test, wide_test}
use Rattle.tm_plain_exprs.proofs.reader.sizes.has_bits.Goals as goal

pub returns-then-bits-ge64 : goal.returns-then-bits-ge64
returns-then-bits-ge64 c = wide_test c.args.value c.args.bits c.ranges.value.fits c.if-bits-ge64.true

pub returns-else-bits-ge64 : goal.returns-else-bits-ge64
returns-else-bits-ge64 c = bits_test c.args.value c.args.bits

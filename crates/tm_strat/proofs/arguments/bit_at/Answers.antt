use Rattle.std.proofs.Common.{sym}
use Rattle.tm_strat.proofs.Written.{bit_past, bit_there}
use Rattle.tm_strat.proofs.arguments.bit_at.Goals as goal

pub returns-then-place-ge64 : goal.returns-then-place-ge64
returns-then-place-ge64 c = sym (bit_past c.args.bits c.args.place c.if-place-ge64.true)

pub returns : goal.returns
returns c = sym (bit_there c.args.bits c.args.place c.if-place-ge64.false)

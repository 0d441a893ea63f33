use Rattle.tm_game.proofs.Writing.{wide_test, width_test}
use Rattle.tm_game.proofs.numbers.has_width.Goals as goal

pub returns-then-width-ge64 : goal.returns-then-width-ge64
returns-then-width-ge64 c = wide_test c.args.number c.args.width c.ranges.number.fits c.if-width-ge64.true

pub returns-else-width-ge64 : goal.returns-else-width-ge64
returns-else-width-ge64 c = width_test c.args.number c.args.width

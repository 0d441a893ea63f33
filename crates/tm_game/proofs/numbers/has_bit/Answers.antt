use Rattle.std.proofs.Common.{arith}
use Rattle.tm_game.proofs.Writing.{no_bit}
use Rattle.tm_game.proofs.numbers.has_bit.Goals as goal

pub returns-else-weight-lt64 : goal.returns-else-weight-lt64
returns-else-weight-lt64 c =
    no_bit c.args.number c.args.weight c.ranges.number.fits (omega (arith, c.if-weight-lt64.false))

use Rattle.std.proofs.Common.{arith}
use Rattle.tm_cparse.proofs.Numbers.{exact_read, exact_none}
use Rattle.tm_cparse.proofs.shape.is_exact.Goals as goal

pub returns-in-Some : goal.returns-in-Some
returns-in-Some c =
    exact_read c.args.digits.now c.in-Some.value c.args.number c.from.result c.requires c.in-Some.ensures (omega arith)
    c.from.ensures

pub returns-in-None : goal.returns-in-None
returns-in-None c = exact_none c.args.digits.now c.args.number c.in-None.ensures (omega arith)

use Rattle.std.proofs.Common.{arith}
use Rattle.tm_cparse.proofs.Runs.{named_then, named_else}
use Rattle.tm_cparse.proofs.shape.is_named.Goals as goal

pub returns-then-is_exact : goal.returns-then-is_exact
returns-then-is_exact c =
    named_then c.args.number c.args.item.now c.args.digits.now c.args.path.now c.is_written.result (omega arith)
    c.requires (c.is_exact.ensures.0 c.if-is_exact.true) c.is_written.ensures

pub returns-else-is_exact : goal.returns-else-is_exact
returns-else-is_exact c =
    named_else c.args.number c.args.item.now c.args.digits.now c.args.path.now c.is_exact.result (omega arith)
    c.requires c.is_exact.ensures c.if-is_exact.false

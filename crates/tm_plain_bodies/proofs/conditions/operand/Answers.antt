use Rattle.tm_syntax.specs.Tree.View.{expr_tree}
use Rattle.tm_plain_bodies.proofs.Doing.{overrun_halts}
use Rattle.tm_plain_bodies.proofs.conditions.operand.Goals as goal

pub returns-in-Err-clause-halts : goal.returns-in-Err-clause-halts
returns-in-Err-clause-halts c =
    overrun_halts c.args.reader.now c.args.course.now (expr_tree c.args.e.now) c.at_end.result c.at_end.ensures
    c.in-Err.ensures.overrun

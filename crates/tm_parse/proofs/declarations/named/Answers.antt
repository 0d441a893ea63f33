use Rattle.std.proofs.Common.{rules}
use Rattle.tm_parse.proofs.Instances.{taken_named, no_named_name, no_named_sign, no_named_expr, no_named_end}
use Rattle.tm_parse.proofs.declarations.named.Goals as goal

pub returns-in-Err-clause-refused : goal.returns-in-Err-clause-refused
returns-in-Err-clause-refused c =
    no_named_name c.args.text.now c.args.depth c.args.tokens.now _ c.in-Err.ensures.refused

pub returns-in-Err-need-clause-refused : goal.returns-in-Err-need-clause-refused
returns-in-Err-need-clause-refused c =
    no_named_sign c.args.text.now c.args.depth c.in-Ok.ensures.taken _ c.in-Err-need.ensures.refused

pub returns-in-Err-expr-clause-refused : goal.returns-in-Err-expr-clause-refused
returns-in-Err-expr-clause-refused c =
    no_named_expr c.args.depth c.in-Ok.ensures.taken c.in-Ok-need.ensures.taken _
    c.in-Err-expr.ensures.refused

pub returns-in-Err-need-2-clause-refused : goal.returns-in-Err-need-2-clause-refused
returns-in-Err-need-2-clause-refused c =
    no_named_end c.in-Ok.ensures.taken c.in-Ok-need.ensures.taken c.in-Ok-expr.ensures.taken _
    c.in-Err-need-2.ensures.refused

pub returns-clause-taken : goal.returns-clause-taken
returns-clause-taken c =
    taken_named c.in-Ok.ensures.taken c.in-Ok-need.ensures.taken c.in-Ok-expr.ensures.taken
    c.in-Ok-need-2.ensures.taken

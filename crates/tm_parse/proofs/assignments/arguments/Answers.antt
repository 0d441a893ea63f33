use Rattle.std.proofs.Common.{is_some, ap, rules}
use Rattle.tm_parse.specs.Operands.{AnExpr}
use Rattle.tm_parse.proofs.Arguments.{taken_empty, taken_filled, no_arguments_opening, no_arguments_list, no_arguments_closing}
use Rattle.tm_parse.proofs.Values.{listed_exprs}
use Rattle.tm_parse.proofs.assignments.arguments.Goals as goal
use Rattle.std.proofs.Common.{◌+◌}

pub returns-in-Err-clause-refused : goal.returns-in-Err-clause-refused
returns-in-Err-clause-refused c =
    no_arguments_opening (AnExpr c.args.text.now 0 (c.args.depth + 1)) c.args.depth c.args.tokens.now _
    c.in-Err.ensures.refused

pub returns-in-Some-clause-taken : goal.returns-in-Some-clause-taken
returns-in-Some-clause-taken c =
    rw c.new.ensures.items
    (taken_empty (listed_exprs c.args.text.now (c.args.depth + 1)) c.in-Some.ensures.some c.in-Ok.ensures.taken
    c.in-Some.ensures.taken)

pub returns-in-Err-exprs-clause-refused : goal.returns-in-Err-exprs-clause-refused
returns-in-Err-exprs-clause-refused c =
    no_arguments_list (listed_exprs c.args.text.now (c.args.depth + 1))
    (c.mark.ensures.none (ap is_some c.in_default.is)) c.in-Ok.ensures.taken _
    c.in-Err-exprs.ensures.refused

pub returns-in-Err-need-clause-refused : goal.returns-in-Err-need-clause-refused
returns-in-Err-need-clause-refused c =
    no_arguments_closing (listed_exprs c.args.text.now (c.args.depth + 1))
    (c.mark.ensures.none (ap is_some c.in_default.is)) c.in-Ok.ensures.taken c.in-Ok-exprs.ensures.taken _
    c.in-Err-need.ensures.refused

pub returns-clause-taken : goal.returns-clause-taken
returns-clause-taken c =
    taken_filled (listed_exprs c.args.text.now (c.args.depth + 1)) (c.mark.ensures.none (ap is_some c.in_default.is))
    c.in-Ok.ensures.taken c.in-Ok-exprs.ensures.taken c.in-Ok-need.ensures.taken

use Rattle.std.proofs.Common.{rules}
use Rattle.tm_syntax.proofs.Views.{view-Call}
use Rattle.tm_parse.proofs.Commands.{taken_call_stmt, no_call_stmt, no_call_stmt_end}
use Rattle.tm_parse.proofs.assignments.call_from.Goals as goal

pub returns-in-Err-clause-refused : goal.returns-in-Err-clause-refused
returns-in-Err-clause-refused c =
    no_call_stmt c.args.text.now c.args.depth c.args.path.names.items c.args.tokens.now c.requires.opens _
    c.in-Err.ensures.refused

pub returns-in-Err-need-clause-refused : goal.returns-in-Err-need-clause-refused
returns-in-Err-need-clause-refused c =
    no_call_stmt_end c.args.path.names.items c.requires.opens c.in-Ok.ensures.taken _
    c.in-Err-need.ensures.refused

pub returns-clause-taken : goal.returns-clause-taken
returns-clause-taken c =
    rw (view-Call c.args.path c.in-Ok.read.0)
    (taken_call_stmt c.args.path.names.items c.requires.opens c.in-Ok.ensures.taken
    c.in-Ok-need.ensures.taken)

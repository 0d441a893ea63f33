use Rattle.std.proofs.Common.{rules}
use Rattle.tm_syntax.proofs.Views.{view-Assign}
use Rattle.tm_parse.proofs.Commands.{taken_place_stmt, no_place_index, no_place_assign, no_place_value, no_place_end}
use Rattle.tm_parse.proofs.assignments.assignment_from.Goals as goal

pub returns-in-Err-clause-refused : goal.returns-in-Err-clause-refused
returns-in-Err-clause-refused c =
    no_place_index c.args.text.now c.args.depth c.args.path.names.items c.args.tokens.now c.requires.opens _
    c.in-Err.ensures.refused

pub returns-in-Err-need-clause-refused : goal.returns-in-Err-need-clause-refused
returns-in-Err-need-clause-refused c =
    no_place_assign c.args.text.now c.args.depth c.args.path.names.items c.args.tokens.now c.requires.opens
    c.in-Ok.ensures.taken _ c.in-Err-need.ensures.refused

pub returns-in-Err-value-clause-refused : goal.returns-in-Err-value-clause-refused
returns-in-Err-value-clause-refused c =
    no_place_value c.args.path.names.items c.args.tokens.now c.requires.opens c.in-Ok.ensures.taken
    c.in-Ok-need.ensures.taken _ c.in-Err-value.ensures.refused

pub returns-in-Err-need-2-clause-refused : goal.returns-in-Err-need-2-clause-refused
returns-in-Err-need-2-clause-refused c =
    no_place_end c.args.path.names.items c.args.tokens.now c.requires.opens c.in-Ok.ensures.taken
    c.in-Ok-need.ensures.taken c.in-Ok-value.ensures.taken _ c.in-Err-need-2.ensures.refused

pub returns-clause-taken : goal.returns-clause-taken
returns-clause-taken c =
    rw (view-Assign c.args.path c.in-Ok.read.0 c.in-Ok-value.read.0)
    (taken_place_stmt c.args.path.names.items c.args.tokens.now c.requires.opens c.in-Ok.ensures.taken
    c.in-Ok-need.ensures.taken c.in-Ok-value.ensures.taken c.in-Ok-need-2.ensures.taken)

use Rattle.std.proofs.Common.{rules}
use Rattle.tm_parse.proofs.Locals.{taken_local, no_local_type, no_local_name, no_local_assign, no_local_value, no_local_end}
use Rattle.tm_parse.proofs.bodies.local.Goals as goal

pub returns-in-Err-clause-refused : goal.returns-in-Err-clause-refused
returns-in-Err-clause-refused c =
    no_local_type c.args.text.now c.args.depth c.args.tokens.now _ c.in-Err.ensures.refused

pub returns-in-Err-name-clause-refused : goal.returns-in-Err-name-clause-refused
returns-in-Err-name-clause-refused c =
    no_local_name c.args.depth c.in-Ok.ensures.taken _ c.in-Err-name.ensures.refused

pub returns-in-Err-need-clause-refused : goal.returns-in-Err-need-clause-refused
returns-in-Err-need-clause-refused c =
    no_local_assign c.args.depth c.in-Ok.ensures.taken c.in-Ok-name.ensures.taken _
    c.in-Err-need.ensures.refused

pub returns-in-Err-value-clause-refused : goal.returns-in-Err-value-clause-refused
returns-in-Err-value-clause-refused c =
    no_local_value c.args.depth c.in-Ok.ensures.taken c.in-Ok-name.ensures.taken
    c.in-Ok-need.ensures.taken _ c.in-Err-value.ensures.refused

pub returns-in-Err-need-2-clause-refused : goal.returns-in-Err-need-2-clause-refused
returns-in-Err-need-2-clause-refused c =
    no_local_end c.in-Ok.ensures.taken c.in-Ok-name.ensures.taken c.in-Ok-need.ensures.taken
    c.in-Ok-value.ensures.taken _ c.in-Err-need-2.ensures.refused

pub returns-clause-taken : goal.returns-clause-taken
returns-clause-taken c =
    taken_local c.in-Ok.ensures.taken c.in-Ok-name.ensures.taken c.in-Ok-need.ensures.taken
    c.in-Ok-value.ensures.taken c.in-Ok-need-2.ensures.taken

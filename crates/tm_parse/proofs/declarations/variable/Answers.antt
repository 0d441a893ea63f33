use Rattle.std.proofs.Common.{rules}
use Rattle.tm_parse.proofs.Literals.{taken_variable, no_variable_type, no_variable_name, no_variable_length, no_variable_initial, no_variable_end}
use Rattle.tm_parse.proofs.declarations.variable.Goals as goal

pub returns-in-Err-clause-refused : goal.returns-in-Err-clause-refused
returns-in-Err-clause-refused c =
    no_variable_type c.args.text.now c.args.tokens.now _ c.in-Err.ensures.refused

pub returns-in-Err-name-clause-refused : goal.returns-in-Err-name-clause-refused
returns-in-Err-name-clause-refused c =
    no_variable_name c.args.text.now c.in-Ok.ensures.taken _ c.in-Err-name.ensures.refused

pub returns-in-Err-length-clause-refused : goal.returns-in-Err-length-clause-refused
returns-in-Err-length-clause-refused c =
    no_variable_length c.args.text.now c.in-Ok.ensures.taken c.in-Ok-name.ensures.taken _
    c.in-Err-length.ensures.refused

pub returns-in-Err-initial-clause-refused : goal.returns-in-Err-initial-clause-refused
returns-in-Err-initial-clause-refused c =
    no_variable_initial c.in-Ok.ensures.taken c.in-Ok-name.ensures.taken c.in-Ok-length.ensures.taken _
    c.in-Err-initial.ensures.refused

pub returns-in-Err-need-clause-refused : goal.returns-in-Err-need-clause-refused
returns-in-Err-need-clause-refused c =
    no_variable_end c.in-Ok.ensures.taken c.in-Ok-name.ensures.taken c.in-Ok-length.ensures.taken
    c.in-Ok-initial.ensures.taken _ c.in-Err-need.ensures.refused

pub returns-clause-taken : goal.returns-clause-taken
returns-clause-taken c =
    taken_variable c.in-Ok.ensures.taken c.in-Ok-name.ensures.taken c.in-Ok-length.ensures.taken
    c.in-Ok-initial.ensures.taken c.in-Ok-need.ensures.taken

use Rattle.std.proofs.Common.{rules}
use Rattle.tm_parse.proofs.Tasks.{taken_procedure, no_procedure_begin, no_procedure_heading, no_procedure_body}
use Rattle.tm_parse.proofs.declarations.procedure.Goals as goal

pub returns-in-Err-clause-refused : goal.returns-in-Err-clause-refused
returns-in-Err-clause-refused c =
    no_procedure_begin c.args.text.now c.args.depth c.args.tokens.now _ c.in-Err.ensures.refused

pub returns-in-Err-heading-clause-refused : goal.returns-in-Err-heading-clause-refused
returns-in-Err-heading-clause-refused c =
    no_procedure_heading c.args.text.now c.args.depth c.in-Ok.ensures.taken _
    c.in-Err-heading.ensures.refused

pub returns-in-Err-answering_body-clause-refused : goal.returns-in-Err-answering_body-clause-refused
returns-in-Err-answering_body-clause-refused c =
    no_procedure_body c.in-Ok.ensures.taken c.in-Ok-heading.ensures.taken _ c.in-Err-answering_body.ensures.refused

pub returns-clause-taken : goal.returns-clause-taken
returns-clause-taken c =
    taken_procedure c.in-Ok.ensures.taken c.in-Ok-heading.ensures.taken c.in-Ok-answering_body.ensures.taken

use Rattle.std.proofs.Common.{rules}
use Rattle.tm_parse.proofs.Tasks.{taken_procedure_kind, no_procedure_word, no_procedure_result}
use Rattle.tm_parse.proofs.declarations.procedure_kind.Goals as goal

pub returns-in-Err-clause-refused : goal.returns-in-Err-clause-refused
returns-in-Err-clause-refused c =
    no_procedure_word c.args.text.now c.args.tokens.now _ c.in-Err.ensures.refused

pub returns-in-Err-result_type-clause-refused : goal.returns-in-Err-result_type-clause-refused
returns-in-Err-result_type-clause-refused c =
    no_procedure_result c.args.text.now c.in-Ok.ensures.taken _ c.in-Err-result_type.ensures.refused

pub returns-clause-taken : goal.returns-clause-taken
returns-clause-taken c = taken_procedure_kind c.in-Ok.ensures.taken c.in-Ok-result_type.ensures.taken

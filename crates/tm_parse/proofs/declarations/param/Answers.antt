use Rattle.std.proofs.Common.{rules}
use Rattle.tm_parse.proofs.Tasks.{taken_param, no_param_type, no_param_name}
use Rattle.tm_parse.proofs.declarations.param.Goals as goal

pub returns-in-Err-clause-refused : goal.returns-in-Err-clause-refused
returns-in-Err-clause-refused c =
    no_param_type c.args.text.now c.args.tokens.now _ c.in-Err.ensures.refused

pub returns-in-Err-name-clause-refused : goal.returns-in-Err-name-clause-refused
returns-in-Err-name-clause-refused c =
    no_param_name c.args.text.now c.in-Ok.ensures.taken _ c.in-Err-name.ensures.refused

pub returns-clause-taken : goal.returns-clause-taken
returns-clause-taken c = taken_param c.in-Ok.ensures.taken c.in-Ok-name.ensures.taken

use Rattle.std.proofs.Common.{rules}
use Rattle.tm_parse.proofs.Tasks.{taken_heading, no_heading_name, no_heading_params}
use Rattle.tm_parse.proofs.declarations.heading.Goals as goal

pub returns-in-Err-clause-refused : goal.returns-in-Err-clause-refused
returns-in-Err-clause-refused c =
    no_heading_name c.args.text.now c.args.depth c.args.tokens.now _ c.in-Err.ensures.refused

pub returns-in-Err-params-clause-refused : goal.returns-in-Err-params-clause-refused
returns-in-Err-params-clause-refused c =
    no_heading_params c.args.depth c.in-Ok.ensures.taken _ c.in-Err-params.ensures.refused

pub returns-clause-taken : goal.returns-clause-taken
returns-clause-taken c = taken_heading c.in-Ok.ensures.taken c.in-Ok-params.ensures.taken

use Rattle.std.proofs.Common.{is_some, ap, rules}
use Rattle.tm_parse.proofs.Tasks.{taken_void, taken_result, no_result}
use Rattle.tm_parse.proofs.declarations.result_type.Goals as goal

pub returns-in-Some-clause-taken : goal.returns-in-Some-clause-taken
returns-in-Some-clause-taken c = taken_void c.in-Some.ensures.some c.in-Some.ensures.taken

pub returns-in-Err-clause-refused : goal.returns-in-Err-clause-refused
returns-in-Err-clause-refused c =
    no_result c.args.text.now c.args.tokens.now (c.mark.ensures.none (ap is_some c.in_default.is)) _
    c.in-Err.ensures.refused

pub returns-clause-taken : goal.returns-clause-taken
returns-clause-taken c =
    taken_result c.args.tokens.now (c.mark.ensures.none (ap is_some c.in_default.is)) c.in-Ok.ensures.taken

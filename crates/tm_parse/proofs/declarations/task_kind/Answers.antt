use Rattle.std.proofs.Common.{is_some, ap, rules}
use Rattle.tm_parse.proofs.Tasks.{taken_controllable, taken_uncontrollable, no_task_word, no_task_kind}
use Rattle.tm_parse.proofs.declarations.task_kind.Goals as goal

pub returns-in-Err-clause-refused : goal.returns-in-Err-clause-refused
returns-in-Err-clause-refused c =
    no_task_word c.args.tokens.now _ c.in-Err.ensures.refused

pub returns-in-Some-clause-taken : goal.returns-in-Some-clause-taken
returns-in-Some-clause-taken c =
    taken_controllable c.in-Ok.ensures.taken c.in-Some.ensures.some c.in-Some.ensures.taken

pub returns-in-Err-need-clause-refused : goal.returns-in-Err-need-clause-refused
returns-in-Err-need-clause-refused c =
    no_task_kind c.in-Ok.ensures.taken (c.mark.ensures.none (ap is_some c.in_default.is)) _
    c.in-Err-need.ensures.refused

pub returns-clause-taken : goal.returns-clause-taken
returns-clause-taken c =
    taken_uncontrollable c.in-Ok.ensures.taken (c.mark.ensures.none (ap is_some c.in_default.is))
    c.in-Ok-need.ensures.taken

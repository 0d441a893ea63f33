use Rattle.std.proofs.Common.{rules}
use Rattle.tm_parse.proofs.Commands.{taken_short, no_short_mark, no_short_end}
use Rattle.tm_parse.proofs.statements.short.Goals as goal

pub returns-in-Err-clause-refused : goal.returns-in-Err-clause-refused
returns-in-Err-clause-refused c =
    no_short_mark c.args.kind c.args.tokens.now _ c.in-Err.ensures.refused

pub returns-in-Err-need-clause-refused : goal.returns-in-Err-need-clause-refused
returns-in-Err-need-clause-refused c =
    no_short_end c.in-Ok.ensures.taken _ c.in-Err-need.ensures.refused

pub returns-clause-taken : goal.returns-clause-taken
returns-clause-taken c = taken_short c.in-Ok.ensures.taken c.in-Ok-need.ensures.taken

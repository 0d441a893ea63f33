use Rattle.std.proofs.Common.{rules}
use Rattle.tm_parse.proofs.Commands.{taken_condition, no_condition}
use Rattle.tm_parse.proofs.Goes.{no_goes_parenthesis}
use Rattle.tm_parse.proofs.statements.condition.Goals as goal

pub enclosed-requires-clause-closes : goal.enclosed-requires-clause-closes
enclosed-requires-clause-closes c = no_goes_parenthesis 0

pub returns-in-Err-clause-refused : goal.returns-in-Err-clause-refused
returns-in-Err-clause-refused c =
    no_condition c.args.text.now c.args.depth c.args.tokens.now _ c.in-Err.ensures.refused

pub returns-clause-taken : goal.returns-clause-taken
returns-clause-taken c = taken_condition c.in-Ok.ensures.taken

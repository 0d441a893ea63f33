use Rattle.std.proofs.Common.{rules}
use Rattle.tm_parse.proofs.Commands.{taken_no_index, taken_index, no_index}
use Rattle.tm_parse.proofs.Goes.{no_goes_bracket}
use Rattle.tm_parse.proofs.assignments.index.Goals as goal

pub enclosed-requires-clause-closes : goal.enclosed-requires-clause-closes
enclosed-requires-clause-closes c = no_goes_bracket 0

pub returns-then-ne-clause-taken : goal.returns-then-ne-clause-taken
returns-then-ne-clause-taken c = taken_no_index c.args.text.now c.args.depth c.args.tokens.now (search rules)

pub returns-in-Err-clause-refused : goal.returns-in-Err-clause-refused
returns-in-Err-clause-refused c =
    no_index c.args.text.now c.args.depth c.args.tokens.now (search rules) _ c.in-Err.ensures.refused

pub returns-clause-taken : goal.returns-clause-taken
returns-clause-taken c = taken_index c.args.tokens.now (search rules) c.in-Ok.ensures.taken

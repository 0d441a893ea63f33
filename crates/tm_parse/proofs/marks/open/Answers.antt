use Rattle.std.proofs.Common.{is_some, ap, arith}
use Rattle.tm_parse.proofs.Terminals.{no_level, no_opening, taken_opening}
use Rattle.tm_parse.proofs.marks.open.Goals as goal

pub returns-in_default-clause-refused : goal.returns-in_default-clause-refused
returns-in_default-clause-refused c =
    no_opening c.args.kind c.args.tokens.now c.args.depth (c.mark.ensures.none (ap is_some c.in_default.is))

pub returns-then-depth-lt-LIMIT-clause-taken : goal.returns-then-depth-lt-LIMIT-clause-taken
returns-then-depth-lt-LIMIT-clause-taken c =
    taken_opening c.args.depth c.in-Some.ensures.taken (omega arith)

pub returns-else-depth-lt-LIMIT-clause-refused : goal.returns-else-depth-lt-LIMIT-clause-refused
returns-else-depth-lt-LIMIT-clause-refused c =
    no_level c.args.kind c.args.tokens.now c.args.depth c.in-Some.ensures.some (omega arith)

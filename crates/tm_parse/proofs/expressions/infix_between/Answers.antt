use Rattle.std.proofs.Common.{rules}
use Rattle.tm_parse.proofs.Terminals.{taken_mark}
use Rattle.tm_parse.proofs.expressions.infix_between.Goals as goal

pub returns-then-strength-most-clause-taken : goal.returns-then-strength-most-clause-taken
returns-then-strength-most-clause-taken c =
    taken_mark c.in_ok-first.first.now c.in_ok-first.ensures.cases.0 (search rules)

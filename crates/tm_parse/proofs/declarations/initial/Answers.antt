use Rattle.std.proofs.Common.{is_some, ap, rules}
use Rattle.tm_parse.proofs.Literals.{taken_no_initial, taken_initial, no_initial}
use Rattle.tm_parse.proofs.declarations.initial.Goals as goal

pub returns-in_default-clause-taken : goal.returns-in_default-clause-taken
returns-in_default-clause-taken c =
    taken_no_initial c.args.text.now c.args.tokens.now (c.mark.ensures.none (ap is_some c.in_default.is))

pub returns-in-Err-clause-refused : goal.returns-in-Err-clause-refused
returns-in-Err-clause-refused c =
    no_initial c.args.text.now c.in-Some.ensures.some c.in-Some.ensures.taken _
    c.in-Err.ensures.refused

pub returns-clause-taken : goal.returns-clause-taken
returns-clause-taken c = taken_initial c.in-Some.ensures.some c.in-Some.ensures.taken c.in-Ok.ensures.taken

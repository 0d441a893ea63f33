use Rattle.std.proofs.Common.{is_some, ap, rules}
use Rattle.tm_parse.proofs.Names.{no_number, taken_number}
use Rattle.tm_parse.proofs.leaves.number.Goals as goal

pub returns-in_default-clause-refused : goal.returns-in_default-clause-refused
returns-in_default-clause-refused c =
    no_number c.args.text.now c.args.tokens.now (c.token.ensures.none (ap is_some c.in_default.is))

pub returns-clause-taken : goal.returns-clause-taken
returns-clause-taken c =
    taken_number c.in-Some.first.now c.in-Some.ensures.whole c.in-Some.ensures.is (search rules) (search rules)

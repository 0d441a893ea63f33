use Rattle.std.proofs.Common.{is_some, ap, rules}
use Rattle.tm_parse.proofs.Literals.{taken_no_length, taken_length, no_length_number, no_length_closing}
use Rattle.tm_parse.proofs.declarations.length.Goals as goal

pub returns-in_default-clause-taken : goal.returns-in_default-clause-taken
returns-in_default-clause-taken c =
    taken_no_length c.args.text.now c.args.tokens.now (c.mark.ensures.none (ap is_some c.in_default.is))

pub returns-in-Err-clause-refused : goal.returns-in-Err-clause-refused
returns-in-Err-clause-refused c =
    no_length_number c.args.text.now c.in-Some.ensures.some c.in-Some.ensures.taken _
    c.in-Err.ensures.refused

pub returns-in-Err-need-clause-refused : goal.returns-in-Err-need-clause-refused
returns-in-Err-need-clause-refused c =
    no_length_closing c.in-Some.ensures.some c.in-Some.ensures.taken c.in-Ok.ensures.taken _
    c.in-Err-need.ensures.refused

pub returns-clause-taken : goal.returns-clause-taken
returns-clause-taken c =
    taken_length c.in-Some.ensures.some c.in-Some.ensures.taken c.in-Ok.ensures.taken c.in-Ok-need.ensures.taken

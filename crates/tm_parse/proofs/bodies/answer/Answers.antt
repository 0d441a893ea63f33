use Rattle.std.proofs.Common.{is_some, rules, ap}
use Rattle.tm_parse.proofs.Braces.{taken_no_answer, taken_answer, no_answer_expr, no_answer_end}
use Rattle.tm_parse.proofs.bodies.answer.Goals as goal

pub returns-in_default-clause-taken : goal.returns-in_default-clause-taken
returns-in_default-clause-taken c =
    taken_no_answer c.args.text.now c.args.depth c.args.tokens.now (c.mark.ensures.none (ap is_some c.in_default.is))

pub returns-in-Err-clause-refused : goal.returns-in-Err-clause-refused
returns-in-Err-clause-refused c =
    no_answer_expr c.args.text.now c.args.depth c.in-Some.ensures.some c.in-Some.ensures.taken _
    c.in-Err.ensures.refused

pub returns-in-Err-need-clause-refused : goal.returns-in-Err-need-clause-refused
returns-in-Err-need-clause-refused c =
    no_answer_end c.args.text.now c.args.depth c.in-Some.ensures.some c.in-Some.ensures.taken
    c.in-Ok.ensures.taken _
    c.in-Err-need.ensures.refused

pub returns-clause-taken : goal.returns-clause-taken
returns-clause-taken c =
    taken_answer c.in-Some.ensures.some c.in-Some.ensures.taken c.in-Ok.ensures.taken c.in-Ok-need.ensures.taken

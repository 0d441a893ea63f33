use Rattle.std.proofs.Common.{rules}
use Rattle.tm_parse.proofs.Braces.{no_answering_opening, no_answering_body, no_answering_answer, no_answering_closing, taken_answering}
use Rattle.tm_parse.proofs.bodies.answering_body.Goals as goal

pub returns-in-Err-clause-refused : goal.returns-in-Err-clause-refused
returns-in-Err-clause-refused c =
    no_answering_opening c.args.text.now c.args.depth c.args.tokens.now _ c.in-Err.ensures.refused

pub returns-in-Err-locals_stmts-clause-refused : goal.returns-in-Err-locals_stmts-clause-refused
returns-in-Err-locals_stmts-clause-refused c =
    no_answering_body c.args.text.now c.args.depth c.in-Ok.ensures.taken _ c.in-Err-locals_stmts.ensures.refused

pub returns-in-Err-answer-clause-refused : goal.returns-in-Err-answer-clause-refused
returns-in-Err-answer-clause-refused c =
    no_answering_answer c.args.text.now c.args.depth c.in-Ok.ensures.taken c.in-Ok-locals_stmts.ensures.taken _
    c.in-Err-answer.ensures.refused

pub returns-in-Err-need-clause-refused : goal.returns-in-Err-need-clause-refused
returns-in-Err-need-clause-refused c =
    no_answering_closing c.args.text.now c.args.depth c.in-Ok.ensures.taken c.in-Ok-locals_stmts.ensures.taken
    c.in-Ok-answer.ensures.taken _ c.in-Err-need.ensures.refused

pub returns-clause-taken : goal.returns-clause-taken
returns-clause-taken c =
    taken_answering c.in-Ok.ensures.taken c.in-Ok-locals_stmts.ensures.taken c.in-Ok-answer.ensures.taken
    c.in-Ok-need.ensures.taken

use Rattle.std.proofs.Common.{rules}
use Rattle.tm_parse.proofs.Braces.{no_braced_opening, no_braced_body, no_braced_closing, taken_braced}
use Rattle.tm_parse.proofs.bodies.silent_body.Goals as goal

pub returns-in-Err-clause-refused : goal.returns-in-Err-clause-refused
returns-in-Err-clause-refused c =
    no_braced_opening c.args.text.now c.args.depth c.args.tokens.now _ c.in-Err.ensures.refused

pub returns-in-Err-locals_stmts-clause-refused : goal.returns-in-Err-locals_stmts-clause-refused
returns-in-Err-locals_stmts-clause-refused c =
    no_braced_body c.args.text.now c.args.depth c.in-Ok.ensures.taken _ c.in-Err-locals_stmts.ensures.refused

pub returns-in-Err-need-clause-refused : goal.returns-in-Err-need-clause-refused
returns-in-Err-need-clause-refused c =
    no_braced_closing c.args.text.now c.args.depth c.in-Ok.ensures.taken c.in-Ok-locals_stmts.ensures.taken _
    c.in-Err-need.ensures.refused

pub returns-clause-taken : goal.returns-clause-taken
returns-clause-taken c =
    taken_braced c.in-Ok.ensures.taken c.in-Ok-locals_stmts.ensures.taken c.in-Ok-need.ensures.taken

use Rattle.std.proofs.Common.{rules}
use Rattle.tm_parse.proofs.Types.{taken_width, no_width_less, no_width_number, no_width_greater}
use Rattle.tm_parse.proofs.leaves.width.Goals as goal

pub returns-clause-taken : goal.returns-clause-taken
returns-clause-taken c =
    taken_width c.in-Ok.ensures.taken c.in-Ok-number.ensures.taken
    c.in-Ok-need.ensures.taken

pub returns-in-Err-clause-refused : goal.returns-in-Err-clause-refused
returns-in-Err-clause-refused c =
    no_width_less c.args.text.now c.args.tokens.now _ c.in-Err.ensures.refused

pub returns-in-Err-number-clause-refused : goal.returns-in-Err-number-clause-refused
returns-in-Err-number-clause-refused c =
    no_width_number c.args.text.now c.in-Ok.ensures.taken _ c.in-Err-number.ensures.refused

pub returns-in-Err-need-clause-refused : goal.returns-in-Err-need-clause-refused
returns-in-Err-need-clause-refused c =
    no_width_greater c.in-Ok.ensures.taken c.in-Ok-number.ensures.taken _
    c.in-Err-need.ensures.refused

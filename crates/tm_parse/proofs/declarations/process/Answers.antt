use Rattle.std.proofs.Common.{rules}
use Rattle.tm_parse.proofs.Tasks.{taken_process, no_process_word, no_process_name, no_process_body}
use Rattle.tm_parse.proofs.declarations.process.Goals as goal

pub returns-in-Err-clause-refused : goal.returns-in-Err-clause-refused
returns-in-Err-clause-refused c =
    no_process_word c.args.text.now c.args.depth c.laziness-lazy.ensures.taken _
    c.in-Err.ensures.refused

pub returns-in-Err-name-clause-refused : goal.returns-in-Err-name-clause-refused
returns-in-Err-name-clause-refused c =
    no_process_name c.args.text.now c.args.depth c.laziness-lazy.ensures.taken c.in-Ok.ensures.taken _
    c.in-Err-name.ensures.refused

pub returns-in-Err-silent_body-clause-refused : goal.returns-in-Err-silent_body-clause-refused
returns-in-Err-silent_body-clause-refused c =
    no_process_body c.args.depth c.laziness-lazy.ensures.taken c.in-Ok.ensures.taken
    c.in-Ok-name.ensures.taken _ c.in-Err-silent_body.ensures.refused

pub returns-clause-taken : goal.returns-clause-taken
returns-clause-taken c =
    taken_process c.laziness-lazy.ensures.taken c.in-Ok.ensures.taken c.in-Ok-name.ensures.taken
    c.in-Ok-silent_body.ensures.taken

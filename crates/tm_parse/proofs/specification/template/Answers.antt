use Rattle.std.proofs.Common.{rules}
use Rattle.tm_parse.proofs.Templates.{taken_template, no_template_head, no_template_decls, no_template_end}
use Rattle.tm_parse.proofs.specification.template.Goals as goal

pub returns-in-Err-clause-refused : goal.returns-in-Err-clause-refused
returns-in-Err-clause-refused c =
    no_template_head c.args.text.now c.args.tokens.now _ c.in-Err.ensures.refused

pub returns-in-Err-extended-clause-refused : goal.returns-in-Err-extended-clause-refused
returns-in-Err-extended-clause-refused c =
    no_template_decls c.in-Ok.ensures.taken _ c.in-Err-extended.ensures.refused

pub returns-in-Err-need-clause-refused : goal.returns-in-Err-need-clause-refused
returns-in-Err-need-clause-refused c =
    no_template_end c.in-Ok.ensures.taken c.in-Ok-extended.ensures.taken _
    c.in-Err-need.ensures.refused

pub returns-clause-taken : goal.returns-clause-taken
returns-clause-taken c =
    taken_template c.in-Ok.ensures.taken c.in-Ok-extended.ensures.taken c.in-Ok-need.ensures.taken

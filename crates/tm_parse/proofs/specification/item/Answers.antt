use Rattle.std.proofs.Common.{rules}
use Rattle.tm_parse.proofs.Ports.{taken_enum_item, no_enum_item, taken_template_item, no_template_item}
use Rattle.tm_parse.proofs.specification.item.Goals as goal

pub returns-in-Err-clause-refused : goal.returns-in-Err-clause-refused
returns-in-Err-clause-refused c =
    no_enum_item c.args.text.now c.args.tokens.now (search rules) _ c.in-Err.ensures.refused

pub returns-then-eq-clause-taken : goal.returns-then-eq-clause-taken
returns-then-eq-clause-taken c = taken_enum_item c.args.tokens.now (search rules) c.in-Ok.ensures.taken

pub returns-in-Err-template-clause-refused : goal.returns-in-Err-template-clause-refused
returns-in-Err-template-clause-refused c =
    no_template_item c.args.text.now c.args.tokens.now (search rules) _ c.in-Err-template.ensures.refused

pub returns-clause-taken : goal.returns-clause-taken
returns-clause-taken c = taken_template_item c.args.tokens.now (search rules) c.in-Ok-template.ensures.taken

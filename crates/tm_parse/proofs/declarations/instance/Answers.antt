use Rattle.std.proofs.Common.{rules}
use Rattle.tm_parse.proofs.Instances.{taken_instance, no_instance_word, no_instance_template, no_instance_name, no_instance_ports, no_instance_end}
use Rattle.tm_parse.proofs.declarations.instance.Goals as goal

pub returns-in-Err-clause-refused : goal.returns-in-Err-clause-refused
returns-in-Err-clause-refused c =
    no_instance_word c.args.text.now c.args.depth c.args.tokens.now _ c.in-Err.ensures.refused

pub returns-in-Err-name-clause-refused : goal.returns-in-Err-name-clause-refused
returns-in-Err-name-clause-refused c =
    no_instance_template c.args.text.now c.args.depth c.in-Ok.ensures.taken _
    c.in-Err-name.ensures.refused

pub returns-in-Err-name-2-clause-refused : goal.returns-in-Err-name-2-clause-refused
returns-in-Err-name-2-clause-refused c =
    no_instance_name c.args.text.now c.args.depth c.in-Ok.ensures.taken c.in-Ok-name.ensures.taken _
    c.in-Err-name-2.ensures.refused

pub returns-in-Err-port_names-clause-refused : goal.returns-in-Err-port_names-clause-refused
returns-in-Err-port_names-clause-refused c =
    no_instance_ports c.args.depth c.in-Ok.ensures.taken c.in-Ok-name.ensures.taken
    c.in-Ok-name-2.ensures.taken _ c.in-Err-port_names.ensures.refused

pub returns-in-Err-need-clause-refused : goal.returns-in-Err-need-clause-refused
returns-in-Err-need-clause-refused c =
    no_instance_end c.in-Ok.ensures.taken c.in-Ok-name.ensures.taken c.in-Ok-name-2.ensures.taken
    c.in-Ok-port_names.ensures.taken _ c.in-Err-need.ensures.refused

pub returns-clause-taken : goal.returns-clause-taken
returns-clause-taken c =
    taken_instance c.in-Ok.ensures.taken c.in-Ok-name.ensures.taken c.in-Ok-name-2.ensures.taken
    c.in-Ok-port_names.ensures.taken c.in-Ok-need.ensures.taken

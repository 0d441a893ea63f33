use Rattle.std.proofs.Common.{rules}
use Rattle.tm_parse.proofs.Ports.{taken_port, no_port_template, no_port_name}
use Rattle.tm_parse.proofs.specification.port.Goals as goal

pub returns-in-Err-clause-refused : goal.returns-in-Err-clause-refused
returns-in-Err-clause-refused c =
    no_port_template c.args.text.now c.args.tokens.now _ c.in-Err.ensures.refused

pub returns-in-Err-name-clause-refused : goal.returns-in-Err-name-clause-refused
returns-in-Err-name-clause-refused c =
    no_port_name c.args.text.now c.in-Ok.ensures.taken _ c.in-Err-name.ensures.refused

pub returns-clause-taken : goal.returns-clause-taken
returns-clause-taken c = taken_port c.in-Ok.ensures.taken c.in-Ok-name.ensures.taken

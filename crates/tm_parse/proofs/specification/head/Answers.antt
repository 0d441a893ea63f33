use Rattle.std.proofs.Common.{map, ap, rules}
use Rattle.tm_syntax.specs.Tree.View.{instance_tree, var_tree, named_tree, process_tree, task_tree}
use Rattle.tm_parse.proofs.Templates.{taken_bare, taken_head, no_head_word, no_head_name, no_head_ports}
use Rattle.tm_parse.proofs.specification.head.Goals as goal

pub returns-in-Err-clause-refused : goal.returns-in-Err-clause-refused
returns-in-Err-clause-refused c =
    no_head_word c.args.text.now c.args.tokens.now _ c.in-Err.ensures.refused

pub returns-in-Err-name-clause-refused : goal.returns-in-Err-name-clause-refused
returns-in-Err-name-clause-refused c =
    no_head_name c.args.text.now c.in-Ok.ensures.taken _ c.in-Err-name.ensures.refused

pub returns-in-Err-ports-clause-refused : goal.returns-in-Err-ports-clause-refused
returns-in-Err-ports-clause-refused c =
    no_head_ports c.in-Ok.ensures.taken c.in-Ok-name.ensures.taken _ c.in-Err-ports.ensures.refused

pub returns-clause-taken : goal.returns-clause-taken
returns-clause-taken c =
    taken_bare (ap (λ l. map instance_tree l) c.new.ensures.items) (ap (λ l. map var_tree l) c.new-2.ensures.items)
    (ap (λ l. map named_tree l) c.new-3.ensures.items) (ap (λ l. map named_tree l) c.new-4.ensures.items)
    (ap (λ l. map process_tree l) c.new-5.ensures.items) (ap (λ l. map task_tree l) c.new-6.ensures.items)
    (taken_head c.in-Ok.ensures.taken c.in-Ok-name.ensures.taken c.in-Ok-ports.ensures.taken)

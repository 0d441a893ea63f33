use Rattle.std.proofs.Common.{rules}
use Rattle.tm_syntax.specs.Design.View.{design_tree}
use Rattle.tm_struct_parse.proofs.NameSteps.{no_process_there}
use Rattle.tm_struct_parse.proofs.names.constant_fault.Goals as goal

pub returns-then-not-is_process : goal.returns-then-not-is_process
returns-then-not-is_process c = λ count known others.
    no_process_there (design_tree c.args.design.now) count c.args.place c.args.number known c.args.line others
    (search rules) (search rules)

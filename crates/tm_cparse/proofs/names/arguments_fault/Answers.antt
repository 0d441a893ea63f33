use Rattle.std.proofs.Common.{rules}
use Rattle.tm_syntax.specs.Design.View.{design_tree}
use Rattle.tm_cparse.specs.View.{tokens_of}
use Rattle.tm_cparse.proofs.NameSteps.{right_count, wrong_count_there}
use Rattle.tm_cparse.proofs.names.arguments_fault.Goals as goal

pub returns-then-takes : goal.returns-then-takes
returns-then-takes c =
    right_count (design_tree c.args.design.now) c.args.number c.argument_count.result (tokens_of c.args.others.now)
    c.requires c.argument_count.ensures (search rules)

pub returns-else-takes : goal.returns-else-takes
returns-else-takes c =
    wrong_count_there (design_tree c.args.design.now) c.args.number c.argument_count.result c.args.line
    (tokens_of c.args.others.now) c.requires c.argument_count.ensures (search rules)

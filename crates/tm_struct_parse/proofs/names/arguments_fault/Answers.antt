use Rattle.std.proofs.Common.{rules}
use Rattle.tm_syntax.specs.Design.View.{design_tree}
use Rattle.tm_cparse.specs.View.{tokens_of}
use Rattle.tm_cparse.specs.Inner.Names as c
use Rattle.tm_cparse.proofs.NameSteps.{right_count}
use Rattle.tm_struct_parse.proofs.NameSteps.{wrong_count_there}
use Rattle.tm_struct_parse.proofs.names.arguments_fault.Goals as goal

pub returns-then-takes : goal.returns-then-takes
returns-then-takes d = λ count place.
    right_count (design_tree d.args.design.now) d.args.number d.argument_count.result (tokens_of d.args.others.now)
    d.requires d.argument_count.ensures (search rules) 0 c.first_place

pub returns-else-takes : goal.returns-else-takes
returns-else-takes d =
    wrong_count_there (design_tree d.args.design.now) d.args.number d.argument_count.result d.args.line
    (tokens_of d.args.others.now) d.requires d.argument_count.ensures (search rules)

use Rattle.std.proofs.Common.{arith}
use Rattle.tm_syntax.specs.Tree.View.{template_tree}
use Rattle.tm_types.specs.Inner.Numbers.{declared_numbers}
use Rattle.tm_types.proofs.FoundPlaces.{found_all, found_more}
use Rattle.tm_types.proofs.literals.text.templates_declared.Goals as goal

pub loop-template-preserved : goal.loop-template-preserved
loop-template-preserved c =
    found_more declared_numbers template_tree c.args.templates.now c.loop-template.template-index
    c.template-item.result (omega arith) c.template-item.is c.in-Ok.ensures
    c.earlier_place-first.ensures.earlier c.loop-template.invariant

pub returns : goal.returns
returns c =
    found_all declared_numbers template_tree c.args.templates.now c.loop-template.template-index (omega arith)
    c.loop-template.invariant

use Rattle.std.proofs.Common.{◌≡◌}
use Rattle.tm_syntax.specs.Tree.View.{template_tree}
use Rattle.tm_types.specs.Inner.Numbers.{declared_numbers}
use Rattle.tm_types.proofs.FoundPlaces.{found_before}
use Rattle.tm_types.proofs.literals.text.templates_declared.Given as goal

abbrev pub invariant-loop-template : goal.invariant-loop-template
invariant-loop-template l = l.first ≡ found_before declared_numbers template_tree l.templates l.template-index

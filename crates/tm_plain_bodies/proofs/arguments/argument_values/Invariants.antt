use Rattle.tm_syntax.specs.Tree.View.{expr_trees}
use Rattle.tm_plain_bodies.proofs.Giving.{ValuedSoFar}
use Rattle.tm_plain_bodies.proofs.arguments.argument_values.Given as goal

abbrev pub invariant-loop-index : goal.invariant-loop-index
invariant-loop-index l =
    ValuedSoFar l.reader l.params (expr_trees l.args) l.initial.course l.index l.course l.values.items

use Rattle.tm_syntax.specs.Tree.View.{expr_trees}
use Rattle.tm_flat_bodies.proofs.Passed.{ArgumentsSoFar}
use Rattle.tm_flat_bodies.proofs.arguments.valued_arguments.Given as goal

abbrev pub invariant-loop-index : goal.invariant-loop-index
invariant-loop-index l =
    ArgumentsSoFar l.reader l.params (expr_trees l.args) l.fn.course l.fn.flow l.index l.course l.so_far

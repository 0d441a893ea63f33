use Rattle.tm_syntax.specs.Tree.View.{spec_tree}
use Rattle.tm_limits.specs.Inner.Weights.{weight_of}
use Rattle.tm_limits.specs.TaskBodies.{HasWeights}
use Rattle.tm_limits.proofs.tasks.task_weights.Given as goal

abbrev pub invariant-loop-task : goal.invariant-loop-task
invariant-loop-task l =
    HasWeights (spec_tree l.scopes) (weight_of l.weight) l.order l.task-index l.weights.entries

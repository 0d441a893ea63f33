use Rattle.std.proofs.Common.{subst}
use Rattle.tm_syntax.specs.Tree.View.{spec_tree}
use Rattle.tm_scope.specs.Inner.CallGraphs.{AreAllTasks}
use Rattle.tm_scope.proofs.calls.reaching.walk_calls.Goals as goal

pub walk_tasks-requires : goal.walk_tasks-requires
walk_tasks-requires c =
    subst (λ x. AreAllTasks (spec_tree x) c.in_ok-tasks.tasks) c.spec.ensures c.in_ok-tasks.ensures

pub returns : goal.returns
returns c = c.in_ok-order.ensures

use Rattle.std.proofs.Common.{◌+◌, subst, sym}
use Rattle.tm_scope.proofs.AddedTasks.{AreAdded, none_added, one_added}
use Rattle.tm_scope.proofs.calls.reaching.add_tasks.Goals as goal

pub loop-index-init : goal.loop-index-init
loop-index-init c = none_added c.args.tasks.now c.args.template

pub loop-index-preserved : goal.loop-index-preserved
loop-index-preserved c =
    subst (AreAdded c.args.tasks.now c.args.template (c.loop-index.index + 1)) (sym c.in_ok-insert.ensures)
    (one_added c.args.tasks.now c.args.template c.loop-index.index c.loop-index.tasks c.loop-index.invariant)

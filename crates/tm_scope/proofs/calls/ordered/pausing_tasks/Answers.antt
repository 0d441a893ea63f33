use Rattle.std.proofs.Common.{◌≡◌, ◌+◌, ◌<◌, Some, length, get_or, slice_get, sym, ◌∙◌, subst, arith}
use Rattle.std.proofs.lemmas.Option.{slice_get-get_or, slice_get_within}
use Rattle.tm_syntax.specs.Tree.View.{spec_tree}
use Rattle.tm_scope.specs.Marks.{pauses_at}
use Rattle.tm_syntax.specs.declared.member.Member.{Member}
use Rattle.tm_scope.proofs.TaskSets.{AreMarked, nothing_marked, marked_more, unmarked_more, pauses_so}
use Rattle.tm_scope.proofs.calls.ordered.pausing_tasks.Goals as goal
use Rattle.tm_scope.proofs.calls.ordered.pausing_tasks.Goals.{then-task_pauses+in_ok-insert, else-task_pauses}

pub loop-task-init : goal.loop-task-init
loop-task-init c =
    subst (AreMarked (pauses_at (spec_tree c.args.scopes.now)) c.args.order.now 0) (sym c.new-tasks.ensures)
    (nothing_marked (pauses_at (spec_tree c.args.scopes.now)) c.args.order.now)

pub loop-task-preserved : goal.loop-task-preserved
loop-task-preserved c =
    let s = c.args.scopes.now in
    let order = c.args.order.now in
    let i = c.loop-task.task-index in
    let m : Member = get_or order i (record { template = 0; index = 0 }) in
    let within : i < length order = omega arith in
    let here : slice_get order i ≡ Some m = slice_get-get_or order i (record { template = 0; index = 0 }) within in
    let so = pauses_so s order c.requires.ordered c.requires.short i c.loop-task.tasks c.loop-task.invariant m here in
    elim c.if-task_pauses.branch [
      | then-task_pauses+in_ok-insert w ↦
          subst (AreMarked (pauses_at (spec_tree s)) order (i + 1)) (sym (w.tasks-is ∙ w.in_ok-insert.ensures))
          (marked_more (pauses_at (spec_tree s)) order i c.loop-task.tasks m c.loop-task.invariant here
          (sym so ∙ sym w.if-task_pauses.ensures))
      | else-task_pauses w ↦
          subst (AreMarked (pauses_at (spec_tree s)) order (i + 1)) (sym w.tasks-is)
          (unmarked_more (pauses_at (spec_tree s)) order i c.loop-task.tasks m c.loop-task.invariant here
          (sym so ∙ sym w.if-task_pauses.ensures))
    ]

pub returns : goal.returns
returns c = record {
  sound = c.loop-task.invariant.sound;
  complete = λ k m at.
      let inside : k < length c.args.order.now = slice_get_within c.args.order.now k m at in
      c.loop-task.invariant.complete k m (omega arith) at;
}

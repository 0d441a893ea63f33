use Rattle.std.proofs.Common.{◌≡◌, ◌+◌, ◌<◌, false, Some, get_or, length, slice_get, sym, ap, ◌∙◌, subst}
use Rattle.std.specs.Option.{option_map_or}
use Rattle.std.proofs.lemmas.Option.{slice_get-get_or}
use Rattle.tm_scope.specs.declared.graph.Walked.{Walked}
use Rattle.tm_scope.specs.Inner.CallGraphs.{AreLooping}
use Rattle.tm_scope.specs.Marks.{with_task}
use Rattle.tm_scope.proofs.CallWalks.{looping_more, nothing_loops, straight_more}
use Rattle.tm_scope.proofs.calls.reaching.tasks_that_loop.Goals as goal
use Rattle.tm_scope.proofs.calls.reaching.tasks_that_loop.Goals.{then-walked+in_ok-add_task, else-walked}

pub loop-walked-init : goal.loop-walked-init
loop-walked-init c =
    subst (AreLooping c.args.tasks.now c.args.nodes.now 0) (sym c.new-looping.ensures)
    (nothing_loops c.args.tasks.now c.args.nodes.now)

pub loop-walked-preserved : goal.loop-walked-preserved
loop-walked-preserved c =
    let tasks = c.args.tasks.now in
    let nodes = c.args.nodes.now in
    let i = c.loop-walked.walked-index in
    let old = c.loop-walked.looping in
    let w : Walked = get_or nodes i (record { node = 0; loops = false }) in
    let within : i < length nodes = c.loop-walked-test.true in
    let here : slice_get nodes i ≡ Some w = slice_get-get_or nodes i (record { node = 0; loops = false }) within in
    let there = c.requires i w here in
    elim c.if-walked.branch [
      | then-walked+in_ok-add_task v ↦
          subst (AreLooping tasks nodes (i + 1))
          (sym (v.looping-is ∙ v.in_ok-add_task.ensures
          ∙ ap (λ o. option_map_or (with_task old) o old) (v.task.ensures ∙ there.1)))
          (looping_more tasks nodes i old w c.loop-walked.invariant here there.0 v.if-walked.true there.1)
      | else-walked v ↦
          subst (AreLooping tasks nodes (i + 1)) (sym v.looping-is)
          (straight_more tasks nodes i old w c.loop-walked.invariant here v.if-walked.false)
    ]

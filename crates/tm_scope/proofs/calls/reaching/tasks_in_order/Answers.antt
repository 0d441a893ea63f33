use Rattle.std.proofs.Common.{◌≡◌, ◌+◌, ◌<◌, false, Some, get_or, length, slice_get, sym, ap, ◌∙◌, subst}
use Rattle.std.specs.declared.alloc.Global.{Global}
use Rattle.std.specs.declared.vec.Vec.{Vec}
use Rattle.std.proofs.lemmas.Option.{none-some, slice_get-get_or}
use Rattle.tm_syntax.specs.declared.member.Member.{Member}
use Rattle.tm_scope.specs.declared.graph.Walked.{Walked}
use Rattle.tm_scope.specs.Inner.CallGraphs.{AreOrdered}
use Rattle.tm_scope.proofs.CallWalks.{nothing_ordered, ordered_more}
use Rattle.tm_scope.proofs.calls.reaching.tasks_in_order.Goals as goal
use Rattle.tm_scope.proofs.calls.reaching.tasks_in_order.Goals.{in-Some+in_ok-push, in_default}

pub loop-walked-init : goal.loop-walked-init
loop-walked-init c =
    subst (AreOrdered c.args.tasks.now c.args.nodes.now 0) (sym c.new-found.ensures.items)
    (nothing_ordered c.args.tasks.now c.args.nodes.now)

pub loop-walked-preserved : goal.loop-walked-preserved
loop-walked-preserved c =
    let tasks = c.args.tasks.now in
    let nodes = c.args.nodes.now in
    let i = c.loop-walked.walked-index in
    let w : Walked = get_or nodes i (record { node = 0; loops = false }) in
    let within : i < length nodes = c.loop-walked-test.true in
    let here : slice_get nodes i ≡ Some w = slice_get-get_or nodes i (record { node = 0; loops = false }) within in
    let there = c.requires i w here in
    elim c.match-task.branch [
      | in-Some+in_ok-push v ↦
          subst (AreOrdered tasks nodes (i + 1))
          (sym (ap (λ (x : Vec Member Global). x.items) v.found-is ∙ v.in_ok-push.ensures.items))
          (ordered_more tasks nodes i c.loop-walked.found.items w v.in-Some.task c.loop-walked.invariant here
          c.if-walked.false (sym c.task.ensures ∙ v.in-Some.is))
      | in_default v ↦ absurd (none-some there.0 (sym v.in_default.is ∙ c.task.ensures ∙ there.1))
    ]

pub returns-then-walked : goal.returns-then-walked
returns-then-walked c =
    let nodes = c.args.nodes.now in
    let i = c.loop-walked.walked-index in
    let w : Walked = get_or nodes i (record { node = 0; loops = false }) in
    let within : i < length nodes = c.loop-walked-test.true in
    (i, w, slice_get-get_or nodes i (record { node = 0; loops = false }) within, c.if-walked.true)

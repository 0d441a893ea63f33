use Rattle.std.proofs.Common.{◌≡◌, ◌↔◌, true, length, sym, subst}
use Rattle.std.specs.Prelude.{IfOk}
use Rattle.tm_syntax.specs.declared.member.Member.{Member}
use Rattle.tm_syntax.specs.Tree.View.{spec_tree}
use Rattle.tm_syntax.specs.Scopes.Calls.{Reaches}
use Rattle.tm_scope.specs.Inner.CallGraphs.{AreLooping, HaveTasks}
use Rattle.tm_scope.specs.Marks.{is_in}
use Rattle.tm_scope.proofs.CallWalks.{has_tasks, looping_tasks-are}
use Rattle.tm_scope.proofs.OrderClauses.{if_ok}
use Rattle.tm_scope.proofs.calls.reaching.looping_tasks.Goals as goal

pub tasks_that_loop-requires : goal.tasks_that_loop-requires
tasks_that_loop-requires c =
    let w = c.in_ok-walk.walk in
    subst (HaveTasks w.tasks) (sym c.as_slice.ensures.value)
    (has_tasks c.args.scopes.now w.tasks w.order.items c.in_ok-walk.ensures)

pub returns : goal.returns
returns c =
    let s = c.args.scopes.now in
    let w = c.in_ok-walk.walk in
    let nodes = w.order.items in
    if_ok c.tasks_that_loop.result (AreLooping w.tasks nodes (length nodes))
    (λ looping. (m : Member) → (is_in looping m ≡ true) ↔ Reaches (spec_tree s) m m)
    (λ looping so. looping_tasks-are s w.tasks nodes looping c.in_ok-walk.ensures so)
    (subst (λ ns. IfOk c.tasks_that_loop.result (AreLooping w.tasks ns (length ns))) c.as_slice.ensures.value
    c.tasks_that_loop.ensures)

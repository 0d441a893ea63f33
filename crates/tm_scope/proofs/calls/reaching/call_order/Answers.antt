use Rattle.std.proofs.Common.{◌≤◌, length, sym, subst}
use Rattle.std.specs.Prelude.{IfNone, IfOk, IfSome, MatchOption}
use Rattle.tm_syntax.specs.declared.member.Member.{Member}
use Rattle.tm_syntax.specs.Tree.View.{spec_tree}
use Rattle.tm_syntax.specs.Scopes.Calls.{Reaches}
use Rattle.tm_syntax.specs.Scopes.Pauses.{call_depth}
use Rattle.tm_scope.specs.CallOrder.{CoversTasks, IsCallOrder}
use Rattle.tm_scope.specs.Inner.CallGraphs.{AreOrdered, HaveTasks, SomeLoops}
use Rattle.tm_scope.proofs.CallWalks.{has_tasks}
use Rattle.tm_scope.proofs.OrderClauses.{Found, clause-acyclic, clause-covers, clause-cyclic, clause-ordered, clause-short, if_ok}
use Rattle.tm_scope.proofs.calls.reaching.call_order.Goals as goal

pub tasks_in_order-requires : goal.tasks_in_order-requires
tasks_in_order-requires c =
    let w = c.in_ok-walk.walk in
    subst (HaveTasks w.tasks) (sym c.as_slice.ensures.value)
    (has_tasks c.args.scopes.now w.tasks w.order.items c.in_ok-walk.ensures)

pub returns-clause-ordered : goal.returns-clause-ordered
returns-clause-ordered c =
    let s = c.args.scopes.now in
    let w = c.in_ok-walk.walk in
    let nodes = w.order.items in
    if_ok c.tasks_in_order.result (Found s w.tasks nodes c.in_ok-walk.ensures)
    (λ o. IfSome o (λ order. IsCallOrder (spec_tree s) order.items))
    (clause-ordered s w.tasks nodes c.in_ok-walk.ensures)
    (subst (λ ns. IfOk c.tasks_in_order.result (λ o. MatchOption o (SomeLoops ns)
    (λ found. AreOrdered w.tasks ns (length ns) found.items))) c.as_slice.ensures.value c.tasks_in_order.ensures)

pub returns-clause-covers : goal.returns-clause-covers
returns-clause-covers c =
    let s = c.args.scopes.now in
    let w = c.in_ok-walk.walk in
    let nodes = w.order.items in
    if_ok c.tasks_in_order.result (Found s w.tasks nodes c.in_ok-walk.ensures)
    (λ o. IfSome o (λ order. CoversTasks (spec_tree s) order.items))
    (clause-covers s w.tasks nodes c.in_ok-walk.ensures)
    (subst (λ ns. IfOk c.tasks_in_order.result (λ o. MatchOption o (SomeLoops ns)
    (λ found. AreOrdered w.tasks ns (length ns) found.items))) c.as_slice.ensures.value c.tasks_in_order.ensures)

pub returns-clause-short : goal.returns-clause-short
returns-clause-short c =
    let s = c.args.scopes.now in
    let w = c.in_ok-walk.walk in
    let nodes = w.order.items in
    if_ok c.tasks_in_order.result (Found s w.tasks nodes c.in_ok-walk.ensures)
    (λ o. IfSome o (λ order. length order.items ≤ call_depth (spec_tree s)))
    (clause-short s w.tasks nodes c.in_ok-walk.ensures)
    (subst (λ ns. IfOk c.tasks_in_order.result (λ o. MatchOption o (SomeLoops ns)
    (λ found. AreOrdered w.tasks ns (length ns) found.items))) c.as_slice.ensures.value c.tasks_in_order.ensures)

pub returns-clause-acyclic : goal.returns-clause-acyclic
returns-clause-acyclic c =
    let s = c.args.scopes.now in
    let w = c.in_ok-walk.walk in
    let nodes = w.order.items in
    if_ok c.tasks_in_order.result (Found s w.tasks nodes c.in_ok-walk.ensures)
    (λ o. IfSome o (λ _. (m : Member) → ¬ Reaches (spec_tree s) m m))
    (clause-acyclic s w.tasks nodes c.in_ok-walk.ensures)
    (subst (λ ns. IfOk c.tasks_in_order.result (λ o. MatchOption o (SomeLoops ns)
    (λ found. AreOrdered w.tasks ns (length ns) found.items))) c.as_slice.ensures.value c.tasks_in_order.ensures)

pub returns-clause-cyclic : goal.returns-clause-cyclic
returns-clause-cyclic c =
    let s = c.args.scopes.now in
    let w = c.in_ok-walk.walk in
    let nodes = w.order.items in
    if_ok c.tasks_in_order.result (Found s w.tasks nodes c.in_ok-walk.ensures)
    (λ o. IfNone o ((m : Member) × Reaches (spec_tree s) m m))
    (clause-cyclic s w.tasks nodes c.in_ok-walk.ensures)
    (subst (λ ns. IfOk c.tasks_in_order.result (λ o. MatchOption o (SomeLoops ns)
    (λ found. AreOrdered w.tasks ns (length ns) found.items))) c.as_slice.ensures.value c.tasks_in_order.ensures)

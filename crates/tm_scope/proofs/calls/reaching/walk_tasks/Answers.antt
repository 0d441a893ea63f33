use Rattle.std.proofs.Common.{◌≡◌, map, sym, ap, ◌∙◌, subst}
use Rattle.tm_scope.specs.Graph.{HasEdgesWithin, IsWalk, graph_of}
use Rattle.tm_scope.specs.Inner.CallGraphs.{IsCallWalk, callees_at}
use Rattle.tm_scope.proofs.CallGraphs.{edges_within}
use Rattle.tm_scope.proofs.OrderClauses.{if_ok}
use Rattle.tm_scope.proofs.calls.reaching.walk_tasks.Goals as goal

pub walk_graph-requires : goal.walk_graph-requires
walk_graph-requires c =
    let s = c.args.scopes.now in
    let tasks = c.args.tasks.now in
    let graph : graph_of c.as_slice-2.result.now ≡ map (callees_at s tasks) tasks =
    ap graph_of c.as_slice-2.ensures.value ∙ c.in_ok-edges.ensures
    ∙ ap (map (callees_at s tasks)) c.as_slice.ensures in
    subst (λ g. HasEdgesWithin g) (sym graph) (edges_within s tasks c.requires)

pub returns : goal.returns
returns c =
    let s = c.args.scopes.now in
    let tasks = c.args.tasks.now in
    let graph : graph_of c.as_slice-2.result.now ≡ map (callees_at s tasks) tasks =
    ap graph_of c.as_slice-2.ensures.value ∙ c.in_ok-edges.ensures
    ∙ ap (map (callees_at s tasks)) c.as_slice.ensures in
    if_ok c.walk_graph.result (λ order. IsWalk (graph_of c.as_slice-2.result.now) order.items)
    (λ order. IsCallWalk s tasks order.items)
    (λ order walk. record { all = c.requires; walk = subst (λ g. IsWalk g order.items) graph walk })
    c.walk_graph.ensures

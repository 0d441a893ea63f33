use Rattle.std.proofs.Common.{◌≡◌, sym, ◌∙◌}
use Rattle.tm_scope.specs.Graph.{graph_of}
use Rattle.tm_scope.proofs.Entries.{empty_list}
use Rattle.tm_scope.proofs.WalkClosings.{walk_ended}
use Rattle.tm_scope.proofs.graph.walk_graph.Goals as goal

pub returns : goal.returns
returns c =
    let w = c.loop-node.walk in
    let none : w.pending.len ≡ 0 = c.in_default.ensures.cases.0 in
    walk_ended (graph_of c.args.edges.now) w.opened.items w.path.items w.pending.items w.groups.items w.order.items
    c.loop-node.invariant.0 (empty_list w.pending.items (sym w.pending.ok.0 ∙ none)) c.loop-node.invariant.1

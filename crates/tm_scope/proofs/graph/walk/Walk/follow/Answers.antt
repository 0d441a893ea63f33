use Rattle.std.proofs.Common.{◌≡◌, ◌<◌, Some, length, slice_get, refl, ap, ◌∙◌, ⊎_elim, arith}
use Rattle.std.proofs.lemmas.Option.{get_or_from_slice_get, slice_get_read, slice_get_within}
use Rattle.tm_scope.specs.Graph.{graph_of}
use Rattle.tm_scope.proofs.Entries.{at-end}
use Rattle.tm_scope.proofs.WalkSteps.{walking-done, walking-joined}
use Rattle.tm_scope.proofs.graph.walk.Walk.follow.Goals as goal
use Rattle.tm_scope.proofs.graph.walk.Walk.follow.Goals.{else-at-len-via-then-at-len+else-index-node, else-at-len-via-else-at-len}

pub returns-then-index-node-clause-walking : goal.returns-then-index-node-clause-walking
returns-then-index-node-clause-walking c =
    let w = c.args.self.now in
    let long : c.len.result ≡ length w.path.items = c.len.ensures ∙ w.path.ok.0 in
    let below : c.in-Some.at < c.len.result = c.if-at-len.true in
    let found = c.index-then-at-len.result.now in
    let here : slice_get w.path.items c.in-Some.at ≡ Some found =
    slice_get_read w.path.items (length w.path.items) c.in-Some.at found refl (omega arith)
    c.index-then-at-len.ensures in
    walking-joined (graph_of c.args.edges.now) w.opened.items w.path.items w.pending.items w.groups.items w.order.items
    c.args.node c.requires.walking c.requires.busy c.in-Some.at c.join_groups.new.groups.items
    (here ∙ ap (λ x. Some x) c.if-index-node.true) c.join_groups.ensures

pub returns-else-at-len-clause-walking : goal.returns-else-at-len-clause-walking
returns-else-at-len-clause-walking c =
    let w = c.args.self.now in
    let graph = graph_of c.args.edges.now in
    let node = c.args.node in
    let at = c.in-Some.at in
    let long : c.len.result ≡ length w.path.items = c.len.ensures ∙ w.path.ok.0 in
    let known : node < length graph =
    c.requires.walking.known (length w.pending.items) node (at-end w.pending.items node) in
    let sized : length w.opened.items ≡ length graph = c.requires.walking.sized in
    let opened : slice_get w.opened.items node ≡ Some (Some at) =
    slice_get_read w.opened.items (length w.opened.items) node c.index.result.now refl (omega arith) c.index.ensures
    ∙ ap (λ x. Some x) c.in-Some.is in
    walking-done graph w.opened.items w.path.items w.pending.items w.groups.items w.order.items node
    c.requires.walking c.requires.busy
    (⊎_elim
    (λ here. absurd (elim c.else-at-len.branch [
      | else-at-len-via-then-at-len+else-index-node v ↦
          v.if-index-node.false
          (v.index-then-at-len.ensures ∙ get_or_from_slice_get w.path.items at node v.index-then-at-len.result.now here)
      | else-at-len-via-else-at-len v ↦
          (let inside : at < length w.path.items = slice_get_within w.path.items at node here in
          omega (arith, v.if-at-len.false))
    ]))
    (λ done. done) (c.requires.walking.seen node at opened))

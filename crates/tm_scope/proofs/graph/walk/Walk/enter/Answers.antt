use Rattle.std.proofs.Common.{◌≡◌, ◌+◌, ◌<◌, ◌++◌, ◌∷◌, [], false, None, Some, length, length-append, set, slice_get, refl, ap, ◌∙◌, suc, arith}
use Rattle.std.proofs.lemmas.List.{length-map}
use Rattle.std.proofs.lemmas.Option.{slice_get_read, slice_get_within}
use Rattle.tm_scope.specs.Graph.{graph_of}
use Rattle.tm_scope.specs.Inner.Walks.{left_over}
use Rattle.tm_scope.proofs.Entries.{at-map}
use Rattle.tm_scope.proofs.WalkFields.{walking_same}
use Rattle.tm_scope.proofs.WalkOpenings.{walking-opened}
use Rattle.tm_scope.proofs.WalkSteps.{left_over-set}
use Rattle.tm_scope.proofs.graph.walk.Walk.enter.Goals as goal

pub returns-clause-walking : goal.returns-clause-walking
returns-clause-walking c =
    let w = c.args.self.now in
    let graph = graph_of c.args.edges.now in
    let node = c.args.node in
    let row = c.index-edges-node.result in
    let start : c.len-start.result ≡ length w.path.items = c.len-start.ensures ∙ w.path.ok.0 in
    let waits : c.len-pending.result ≡ length w.pending.items = c.len-pending.ensures ∙ w.pending.ok.0 in
    let below : node < length w.opened.items = slice_get_within w.opened.items node None c.requires.unopened in
    let sized : length w.opened.items ≡ length graph = c.requires.walking.sized in
    let many : length graph ≡ length c.args.edges.now = length-map c.args.edges.now (λ r. r.items) in
    let row_is : slice_get graph node ≡ Some row.items =
    at-map (λ r. r.items) c.args.edges.now node row
    (slice_get_read c.args.edges.now (length c.args.edges.now) node row refl (omega arith) c.index-edges-node.is) in
    walking_same graph (set w.opened.items node (Some c.len-start.result))
    (set w.opened.items node (Some (length w.path.items))) c.push-2.new.self.items (w.path.items ++ node ∷ [])
    c.extend_from_slice.new.self.items (w.pending.items ++ row.items) c.push.new.self.items
    (w.groups.items
    ++ record { start = length w.path.items; pending = length w.pending.items; loops = false } ∷ [])
    w.order.items w.order.items
    (ap (λ n. set w.opened.items node (Some n)) start)
    c.in_ok-push-2.ensures.items
    (c.in_ok-extend_from_slice.ensures.items ∙ ap (λ xs. w.pending.items ++ xs) c.as_slice.ensures.value)
    (c.in_ok-push.ensures.items
    ∙ (λ i. w.groups.items ++ record { start = start i; pending = waits i; loops = false } ∷ []))
    refl
    (walking-opened graph w.opened.items w.path.items w.pending.items w.groups.items w.order.items node
    c.requires.walking c.requires.busy c.requires.within c.requires.unopened row.items row_is)

pub returns-clause-less : goal.returns-clause-less
returns-clause-less c =
    let w = c.args.self.now in
    let graph = graph_of c.args.edges.now in
    let node = c.args.node in
    let row = c.index-edges-node.result in
    let below : node < length w.opened.items = slice_get_within w.opened.items node None c.requires.unopened in
    let sized : length w.opened.items ≡ length graph = c.requires.walking.sized in
    let many : length graph ≡ length c.args.edges.now = length-map c.args.edges.now (λ r. r.items) in
    let row_is : slice_get graph node ≡ Some row.items =
    at-map (λ r. r.items) c.args.edges.now node row
    (slice_get_read c.args.edges.now (length c.args.edges.now) node row refl (omega arith) c.index-edges-node.is) in
    let fewer : left_over graph (set w.opened.items node (Some c.len-start.result)) + suc (length row.items)
    ≡ left_over graph w.opened.items =
    left_over-set graph w.opened.items node c.len-start.result row.items row_is c.requires.unopened in
    let more : length c.extend_from_slice.new.self.items ≡ length w.pending.items + length row.items =
    ap length (c.in_ok-extend_from_slice.ensures.items ∙ ap (λ xs. w.pending.items ++ xs) c.as_slice.ensures.value)
    ∙ length-append w.pending.items row.items in
    omega arith

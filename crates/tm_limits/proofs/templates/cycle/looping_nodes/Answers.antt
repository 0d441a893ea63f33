use Rattle.std.proofs.Common.{◌≡◌, ◌<◌, ◌≤◌, ℕ, Some, length, get_or, slice_get, false, subst, arith}
use Rattle.std.proofs.lemmas.List.{length-map}
use Rattle.std.proofs.lemmas.Option.{slice_get-get_or}
use Rattle.tm_scope.specs.declared.graph.Walked.{Walked}
use Rattle.tm_scope.specs.Graph.{graph_of}
use Rattle.tm_limits.proofs.Walks.{AreMarked, marked_more, marks_tell, node_within, none_marked}
use Rattle.tm_limits.proofs.templates.cycle.looping_nodes.Goals as goal

pub loop-walked-init : goal.loop-walked-init
loop-walked-init c =
    let nodes = length-map c.args.graph.now (λ v. v.items) in
    let kept = c.resize.new.self.ok.0 in
    let count = c.in_ok-resize.ensures.len in
    none_marked (graph_of c.args.graph.now) c.args.walk.now c.resize.new.self.items (omega (arith, nodes, kept, count))

pub index_mut-requires : goal.index_mut-requires
index_mut-requires c =
    let graph = graph_of c.args.graph.now in
    let walk = c.args.walk.now in
    let i : ℕ = c.loop-walked.walked-index in
    let v : Walked = get_or walk i (record { node = 0; loops = false }) in
    let within : i < length walk = omega arith in
    let at : slice_get walk i ≡ Some v = slice_get-get_or walk i (record { node = 0; loops = false }) within in
    let inside : v.node < length graph = node_within graph walk c.requires i v at in
    let long : length c.loop-walked.marks.items ≡ length graph = c.loop-walked.invariant.long in
    let kept = c.loop-walked.marks.ok.0 in
    omega (arith, inside, long, kept)

pub loop-walked-preserved : goal.loop-walked-preserved
loop-walked-preserved c =
    let graph = graph_of c.args.graph.now in
    let walk = c.args.walk.now in
    let i : ℕ = c.loop-walked.walked-index in
    let v : Walked = get_or walk i (record { node = 0; loops = false }) in
    let within : i < length walk = omega arith in
    let at : slice_get walk i ≡ Some v = slice_get-get_or walk i (record { node = 0; loops = false }) within in
    marked_more graph walk c.requires i v c.loop-walked.marks.items at c.loop-walked.invariant

pub returns : goal.returns
returns c =
    let graph = graph_of c.args.graph.now in
    let walk = c.args.walk.now in
    let short : c.loop-walked.walked-index ≤ length walk = omega arith in
    let done : length walk ≤ c.loop-walked.walked-index = omega arith in
    let whole : c.loop-walked.walked-index ≡ length walk = omega arith in
    marks_tell graph walk c.requires c.loop-walked.marks.items
    (subst (λ i. AreMarked graph walk i c.loop-walked.marks.items) whole c.loop-walked.invariant)

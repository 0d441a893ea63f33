use Rattle.std.proofs.Common.{◌≡◌, ◌<◌, ℕ, Some, List, [], length, get_or, map, slice_get, sym, ap, ◌∙◌, subst, arith}
use Rattle.std.specs.Prelude.{Contains, unwrap_or}
use Rattle.std.specs.Option.{option_map}
use Rattle.std.specs.declared.alloc.Global.{Global}
use Rattle.std.specs.declared.vec.Vec.{Vec}
use Rattle.std.proofs.Math.ListN.{length-set}
use Rattle.std.proofs.lemmas.List.{length-map}
use Rattle.std.proofs.lemmas.Option.{slice_get-get_or, slice_get-map, slice_get_within}
use Rattle.tm_scope.specs.Graph.{graph_of}
use Rattle.tm_syntax.specs.declared.fault.Quantity.TheVariants as quantity
use Rattle.tm_limits.specs.Shares.{combination_of}
use Rattle.tm_limits.specs.Amount.{capped}
use Rattle.tm_limits.specs.Orders.{targets}
use Rattle.tm_limits.specs.Totals.{combined, over}
use Rattle.tm_limits.proofs.TotalSteps.{target_edge, totals_more, whole, whole_of}
use Rattle.tm_inst.proofs.sizes.template_sizes.Goals as goal

-- the nodes to which a node leads, as the row of the code has them
row_is : (graph : List (Vec ℕ Global)) (node : ℕ) (row : Vec ℕ Global) → node < length graph →
    row ≡ get_or graph node row → targets (graph_of graph) node ≡ row.items
row_is graph node row within is =
    ap (λ o. unwrap_or o []) (slice_get-map (λ v. v.items) graph node
    ∙ ap (option_map (λ v. v.items)) (slice_get-get_or graph node row within ∙ ap Some (sym is)))

pub loop-node-init : goal.loop-node-init
loop-node-init c = record {
  room = omega (arith, c.in_ok-resize.ensures.len);
  so_far = λ count ones k n below. absurd (omega arith);
}

pub bounds-graph-node : goal.bounds-graph-node
bounds-graph-node c =
    let order = c.args.order.now in
    let i : ℕ = c.loop-node.node-index in
    let within : i < length order = omega arith in
    let below = c.requires.below i (get_or order i 0) (slice_get-get_or order i 0 within) in
    let nodes = length-map c.args.graph.now (λ v. v.items) in
    omega (arith, below, nodes)

pub index_mut-requires : goal.index_mut-requires
index_mut-requires c =
    let order = c.args.order.now in
    let i : ℕ = c.loop-node.node-index in
    let within : i < length order = omega arith in
    let below = c.requires.below i (get_or order i 0) (slice_get-get_or order i 0 within) in
    let nodes = length-map c.args.graph.now (λ v. v.items) in
    let room : length c.loop-node.sizes.items ≡ length c.args.graph.now = c.loop-node.invariant.room in
    omega (arith, below, nodes, room)

pub loop-node-preserved : goal.loop-node-preserved
loop-node-preserved c =
    let order : List ℕ = c.args.order.now in
    let graph = graph_of c.args.graph.now in
    let i : ℕ = c.loop-node.node-index in
    let node : ℕ = get_or order i 0 in
    let sizes : List ℕ = c.loop-node.sizes.items in
    let within : i < length order = omega arith in
    let at : slice_get order i ≡ Some node = slice_get-get_or order i 0 within in
    let below = c.requires.below i node at in
    let nodes = length-map c.args.graph.now (λ v. v.items) in
    let room : length sizes ≡ length c.args.graph.now = c.loop-node.invariant.room in
    let here : node < length c.args.graph.now = omega (arith, below, nodes) in
    let inside : node < length sizes = omega (arith, here, room) in
    let row : targets graph node ≡ c.as_slice.result.now =
    row_is c.args.graph.now node c.index-graph-node.result here c.index-graph-node.is ∙ sym c.as_slice.ensures.value in
    record {
      room = length-set sizes node c.size_with-size.result ∙ room;
      so_far = λ count ones.
          let lower : (n : ℕ) → Contains c.as_slice.result.now n →
          get_or c.as_slice-in-loop-node.result.now n 0 ≡ capped
          (whole (combination_of quantity.Instances) graph order c.requires count n) =
          λ n e.
          let before = c.requires.behind i node n at
          (target_edge graph node n (subst (λ (ts : List ℕ). Contains ts n) (sym row) e)) in
          ap (λ (xs : List ℕ). get_or xs n 0) c.as_slice-in-loop-node.ensures.value
          ∙ c.loop-node.invariant.so_far count ones before.0 n before.1 before.2 in
          let told : c.size_with-size.result ≡ capped (whole (combination_of quantity.Instances) graph order
          c.requires count node) =
          c.size_with-size.ensures (whole (combination_of quantity.Instances) graph order c.requires count) lower
          ∙ (λ j. capped (combined (combination_of quantity.Instances) (sym (ones node here) j)
          (over (combination_of quantity.Instances) (map (whole (combination_of quantity.Instances) graph order
          c.requires count) (sym row j)))))
          ∙ ap capped (sym (whole_of (combination_of quantity.Instances) graph order c.requires count i node at
          within)) in
          totals_more (combination_of quantity.Instances) graph order c.requires count i node c.size_with-size.result
          sizes at inside told
          (c.loop-node.invariant.so_far count ones);
    }

pub returns : goal.returns
returns c =
    let nodes = length-map c.args.graph.now (λ v. v.items) in
    record {
      each = λ count ones k n at.
          let within : k < length c.args.order.now = slice_get_within c.args.order.now k n at in
          c.loop-node.invariant.so_far count (λ m below. ones m (omega (arith, below, nodes))) k n (omega arith) at;
      many = c.loop-node.invariant.room ∙ sym nodes;
    }

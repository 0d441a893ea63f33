use Rattle.std.proofs.Common.{◌≡◌, ◌<◌, ℕ, Some, List, length, get_or, map, slice_get, sym, ap, ◌∙◌, subst, arith}
use Rattle.std.specs.Prelude.{Contains}
use Rattle.std.proofs.Math.ListN.{length-set}
use Rattle.std.proofs.lemmas.List.{length-map}
use Rattle.std.proofs.lemmas.Option.{slice_get-get_or, slice_get_within}
use Rattle.tm_scope.specs.Graph.{graph_of}
use Rattle.tm_limits.specs.Amount.{capped}
use Rattle.tm_limits.specs.Totals.{combined, over}
use Rattle.tm_limits.proofs.TotalSteps.{target_edge, totals_more, whole, whole_of}
use Rattle.tm_limits.proofs.totals.totals.Goals as goal

pub loop-node-init : goal.loop-node-init
loop-node-init c = record {
  room = omega arith;
  so_far = λ counts own k n below. absurd (omega arith);
}

pub index_mut-requires : goal.index_mut-requires
index_mut-requires c =
    let order = c.args.order.now in
    let i : ℕ = c.loop-node.node-index in
    let within : i < length order = omega arith in
    let below = c.requires.ordered.below i (get_or order i 0) (slice_get-get_or order i 0 within) in
    let nodes = length-map c.args.graph.now (λ v. v.items) in
    let room : length c.loop-node.totals.items ≡ length c.args.own.now = c.loop-node.invariant.room in
    omega (arith, below, nodes, room)

pub loop-node-preserved : goal.loop-node-preserved
loop-node-preserved c =
    let order : List ℕ = c.args.order.now in
    let graph = graph_of c.args.graph.now in
    let by = c.args.combination in
    let i : ℕ = c.loop-node.node-index in
    let node : ℕ = get_or order i 0 in
    let totals : List ℕ = c.loop-node.totals.items in
    let within : i < length order = omega arith in
    let at : slice_get order i ≡ Some node = slice_get-get_or order i 0 within in
    let below = c.requires.ordered.below i node at in
    let nodes = length-map c.args.graph.now (λ v. v.items) in
    let room : length totals ≡ length c.args.own.now = c.loop-node.invariant.room in
    let inside : node < length totals = omega (arith, below, nodes, room) in
    record {
      room = length-set totals node c.total-total.result ∙ room;
      so_far = λ counts own.
          let lower : (n : ℕ) → Contains c.targets_of.result.now n →
          get_or c.as_slice.result.now n 0 ≡ capped (whole by graph order c.requires.ordered counts n) =
          λ n e.
          let before = c.requires.ordered.behind i node n at
          (target_edge graph node n (subst (λ (ts : List ℕ). Contains ts n) c.targets_of.ensures e)) in
          ap (λ (xs : List ℕ). get_or xs n 0) c.as_slice.ensures.value
          ∙ c.loop-node.invariant.so_far counts own before.0 n before.1 before.2 in
          let here : c.total-total.result ≡ capped (whole by graph order c.requires.ordered counts node) =
          c.total-total.ensures (counts node) (whole by graph order c.requires.ordered counts)
          (c.count_at.ensures ∙ own node) lower
          ∙ ap (λ (ts : List ℕ). capped (combined by (counts node)
          (over by (map (whole by graph order c.requires.ordered counts) ts)))) c.targets_of.ensures
          ∙ ap capped (sym (whole_of by graph order c.requires.ordered counts i node at within)) in
          totals_more by graph order c.requires.ordered counts i node c.total-total.result totals at inside here
          (c.loop-node.invariant.so_far counts own);
    }

pub returns : goal.returns
returns c = λ counts own k n at.
    let within : k < length c.args.order.now = slice_get_within c.args.order.now k n at in
    c.loop-node.invariant.so_far counts own k n (omega arith) at

use Rattle.std.proofs.Common.{ℕ, ◌∷◌, ◌++◌, [], List, ap, sym, ◌∙◌, arith}
use Rattle.std.proofs.lemmas.List.FromFn.{map-range_with_len_more}
use Rattle.tm_check.specs.Arguments.{placed}
use Rattle.tm_check.proofs.calls.places.Goals as goal
use Rattle.tm_dd.specs.declared.node.NodeId.{NodeId}

pub loop-index-preserved : goal.loop-index-preserved
loop-index-preserved c =
    c.in_ok-push.ensures.items
    ∙ ap (λ (parts : List (ℕ × NodeId)). parts ++ placed c.args.first c.args.bits.now c.loop-index.index ∷ [])
    c.loop-index.invariant
    ∙ sym
    (map-range_with_len_more (placed c.args.first c.args.bits.now) 0 c.loop-index.index c.loop-index.index
    (omega arith))

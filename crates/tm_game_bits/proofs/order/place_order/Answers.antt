use Rattle.std.proofs.Common.{◌++◌, [], ◌∷◌, List, ℕ, ap, sym, ◌∙◌}
use Rattle.tm_game_bits.proofs.Weights.{range_push}
use Rattle.tm_game_bits.proofs.order.place_order.Goals as goal

pub loop-place-preserved : goal.loop-place-preserved
loop-place-preserved c =
    c.in_ok-push.ensures.items
    ∙ ap (λ (xs : List ℕ). xs ++ c.loop-place.place ∷ []) c.loop-place.invariant
    ∙ sym (range_push c.loop-place.place)

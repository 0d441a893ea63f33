use Rattle.std.proofs.Common.{sym, subst}
use Rattle.std.proofs.lemmas.List.Sorted.{IsPermutation-trans}
use Rattle.tm_game_bits.specs.Order.{IsOrder}
use Rattle.tm_orders.proofs.control.control_order.Goals as goal

pub returns : goal.returns
returns c =
    λ count is. IsPermutation-trans _ _ _ (subst (IsOrder count) (sym c.in_ok-order.ensures.items) is)
    c.sort_by_key.ensures.permutation

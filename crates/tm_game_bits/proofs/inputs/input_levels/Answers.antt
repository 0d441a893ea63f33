use Rattle.std.proofs.Common.{ℕ, subst, sym, ◌∙◌}
use Rattle.std.specs.Prelude.{sum}
use Rattle.tm_game_bits.specs.Order.{IsOrder}
use Rattle.tm_game_bits.proofs.Orders.{length_order}
use Rattle.tm_game_bits.proofs.Pieces.{by_place_long, input_levels_are}
use Rattle.tm_game_bits.proofs.inputs.input_levels.Goals as goal

pub levels_by_place-requires-clause-order : goal.levels_by_place-requires-clause-order
levels_by_place-requires-clause-order c =
    subst (λ (k : ℕ). IsOrder k c.args.order.now)
    (sym (length_order (sum c.args.widths.now) c.args.order.now c.requires.order)) c.requires.order

pub number_levels-requires : goal.number_levels-requires
number_levels-requires c =
    by_place_long c.args.order.now c.args.widths.now c.deref.result.now c.requires.order
    (c.deref.ensures.value ∙ c.in_ok-by_place.ensures)

pub returns : goal.returns
returns c =
    input_levels_are c.args.order.now c.args.widths.now c.deref.result.now c.in_ok-levels.levels.items
    c.push_bits.new.levels.items c.push_bits-2.new.levels.items c.requires.order
    (c.deref.ensures.value ∙ c.in_ok-by_place.ensures) c.in_ok-levels.ensures c.in_ok-push_bits.ensures
    c.in_ok-push_bits-2.ensures

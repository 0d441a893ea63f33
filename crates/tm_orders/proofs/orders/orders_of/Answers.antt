use Rattle.std.proofs.Common.{◌≤◌, ℕ, List, sym, ap, ◌∙◌, subst, rules, arith}
use Rattle.std.specs.Prelude.{All, sum}
use Rattle.tm_flat.proofs.Widths.{few_state_bits}
use Rattle.tm_game_bits.specs.Order.{IsOrder}
use Rattle.tm_sem.specs.StateBits as state_bits
use Rattle.tm_syntax.specs.Design.View.{design_tree}
use Rattle.tm_orders.proofs.orders.orders_of.Goals as goal

pub weight_order-requires-clause-widths : goal.weight_order-requires-clause-widths
weight_order-requires-clause-widths c =
    subst (All (λ w. w ≤ 64)) (sym c.deref.ensures.value) c.in_ok-widths.ensures.small

pub weight_order-requires-clause-count : goal.weight_order-requires-clause-count
weight_order-requires-clause-count c =
    omega (
      arith,
      ap sum (c.deref.ensures.value ∙ c.in_ok-widths.ensures.widths),
      few_state_bits (design_tree c.args.design.now) c.requires.sound,
    )

pub returns-clause-by_weight : goal.returns-clause-by_weight
returns-clause-by_weight c =
    c.in_ok-weight.ensures.weights
    ∙ ap state_bits.weight_order (c.deref.ensures.value ∙ c.in_ok-widths.ensures.widths)

pub returns-clause-weight : goal.returns-clause-weight
returns-clause-weight c =
    subst (λ (ws : List ℕ). IsOrder (sum ws) c.in_ok-weight.weight.items)
    (c.deref.ensures.value ∙ c.in_ok-widths.ensures.widths) c.in_ok-weight.ensures.order

pub returns-clause-control : goal.returns-clause-control
returns-clause-control c =
    subst (λ (ws : List ℕ). IsOrder (sum ws) c.in_ok-control.control.items)
    (c.deref.ensures.value ∙ c.in_ok-widths.ensures.widths)
    (c.in_ok-control.ensures (sum c.deref.result.now)
    (subst (IsOrder (sum c.deref.result.now)) (search rules) c.in_ok-weight.ensures.order))

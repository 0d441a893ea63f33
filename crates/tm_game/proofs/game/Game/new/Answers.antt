use Rattle.std.proofs.Common.{ℕ, ◌-◌, ◌<◌, ◌^◌, List, length, take, sym, ap, ◌∙◌, subst, arith}
use Rattle.std.specs.Prelude.{sum}
use Rattle.std.specs.List.{range_with_len}
use Rattle.tm_flat.specs.Flat.{flat_terms}
use Rattle.tm_game.specs.Start.{state_bits_in}
use Rattle.tm_game.proofs.Starting.{inputs_count}
use Rattle.tm_game.proofs.game.Game.new.Goals as goal
use Rattle.tm_game_bits.specs.Order.{IsOrder}

pub state_bits-count-requires-clause-inputs : goal.state_bits-count-requires-clause-inputs
state_bits-count-requires-clause-inputs c =
    let inputs = inputs_count c.requires.0 c.args.terms (flat_terms c.args.flat) c.requires.1 in
    omega (arith, ap length c.deref.ensures.value)

pub state_bits-count-requires-clause-count : goal.state_bits-count-requires-clause-count
state_bits-count-requires-clause-count c =
    let few : state_bits_in (flat_terms c.args.flat) < 2 ^ 32 = omega (arith, c.requires.1.levels) in
    subst (λ (ws : List ℕ). sum (take (length ws - 128) ws) < 2 ^ 32) (sym c.deref.ensures.value) few

pub with_order-requires-clause-design : goal.with_order-requires-clause-design
with_order-requires-clause-design c = c.requires

pub with_order-requires-clause-order : goal.with_order-requires-clause-order
with_order-requires-clause-order c =
    subst (λ (n : ℕ). IsOrder n c.in-Ok.given.items)
    (c.state_bits-count.ensures ∙ ap (λ (ws : List ℕ). sum (take (length ws - 128) ws)) c.deref.ensures.value)
    c.in-Ok.ensures.order

pub returns-clause-order : goal.returns-clause-order
returns-clause-order c =
    c.in-Ok-with_order.ensures.order
    ∙ c.in-Ok.ensures.places
    ∙ ap (range_with_len 0)
    (c.state_bits-count.ensures ∙ ap (λ (ws : List ℕ). sum (take (length ws - 128) ws)) c.deref.ensures.value)

pub returns-clause-goals : goal.returns-clause-goals
returns-clause-goals c = c.in-Ok-with_order.ensures.goals

pub returns-clause-fairs : goal.returns-clause-fairs
returns-clause-fairs c = c.in-Ok-with_order.ensures.fairs

pub returns-clause-of : goal.returns-clause-of
returns-clause-of c = c.in-Ok-with_order.ensures.of

use Rattle.std.proofs.Common.{sym, subst, ◌∙◌}
use Rattle.std.specs.Prelude.{sum}
use Rattle.tm_flat.specs.Flat.{flat_terms}
use Rattle.tm_game_bits.specs.Order.{IsOrder}
use Rattle.tm_game_pool.proofs.Pooled.{pool_made}
use Rattle.tm_sem.specs.StateBits.{state_widths}
use Rattle.tm_syntax.specs.Design.View.{design_tree}
use Rattle.tm_judge.proofs.Ordering.{order_starts, ordered}
use Rattle.tm_judge.proofs.making.ordered_game.Goals as goal

pub with_order-requires-clause-design : goal.with_order-requires-clause-design
with_order-requires-clause-design c = (design_tree c.args.design.now, c.in_ok-made.ensures.start)

pub with_order-requires-clause-order : goal.with_order-requires-clause-order
with_order-requires-clause-order c =
    order_starts (design_tree c.args.design.now) c.in_ok-made.made.terms (flat_terms c.in_ok-made.made.flat)
    c.in_ok-made.ensures.start c.in_ok-places.places.items
    (subst (IsOrder (sum (state_widths (design_tree c.args.design.now)))) (sym c.in_ok-places.ensures.items)
    c.requires.order)

pub returns : goal.returns
returns c =
    ordered (design_tree c.args.design.now) c.in_ok-made.made.terms (flat_terms c.in_ok-made.made.flat)
    c.in_ok-made.ensures.start c.args.order.now c.requires.order c.in_ok-game.game c.in_ok-game.ensures.flat
    c.in_ok-game.ensures.terms (c.in_ok-game.ensures.order ∙ c.in_ok-places.ensures.items)
    (c.in_ok-game.ensures.of (design_tree c.args.design.now) c.in_ok-made.ensures.start)
    (pool_made (design_tree c.args.design.now) c.in_ok-made.made.terms (flat_terms c.in_ok-made.made.flat)
    c.in_ok-game.game c.in_ok-game.ensures.flat c.in_ok-game.ensures.terms c.in_ok-made.ensures.predicates
    c.in_ok-made.ensures.first) c.order-levels.ensures.levels
    c.in_ok-game.ensures.goals c.in_ok-game.ensures.fairs

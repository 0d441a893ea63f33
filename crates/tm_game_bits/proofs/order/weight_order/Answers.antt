use Rattle.std.proofs.Common.{List, ℕ, refl, sym, subst}
use Rattle.std.specs.Prelude.{sum}
use Rattle.tm_game_bits.specs.Order.{IsOrder}
use Rattle.tm_game_bits.proofs.Partition.{weight_order_is}
use Rattle.tm_game_bits.proofs.Weights.{ordered_all, ordered_more}
use Rattle.tm_game_bits.proofs.order.weight_order.Goals as goal

pub loop-passed-preserved : goal.loop-passed-preserved
loop-passed-preserved c =
    ordered_more c.args.widths.now c.loop-passed.order.items c.push_weight.new.order.items c.loop-passed.passed _
    c.loop-passed-test.true refl c.loop-passed.invariant c.in_ok-push_weight.ensures

pub returns-clause-weights : goal.returns-clause-weights
returns-clause-weights c =
    ordered_all c.args.widths.now c.loop-passed.order.items c.loop-passed.passed c.loop-passed-test.false
    c.loop-passed.invariant

pub returns-clause-order : goal.returns-clause-order
returns-clause-order c =
    subst (λ (xs : List ℕ). IsOrder (sum c.args.widths.now) xs)
    (sym (ordered_all c.args.widths.now c.loop-passed.order.items c.loop-passed.passed c.loop-passed-test.false
    c.loop-passed.invariant))
    (weight_order_is c.args.widths.now c.requires.widths)

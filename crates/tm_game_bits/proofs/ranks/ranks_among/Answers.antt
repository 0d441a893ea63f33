use Rattle.std.proofs.Common.{arith, sym, subst}
use Rattle.std.specs.List.Sorted.{IsNonDecreasingBy}
use Rattle.std.proofs.lemmas.Result.{IfOk-weaker}
use Rattle.tm_game_bits.specs.Inner.Ranks.{key_of}
use Rattle.tm_game_bits.specs.Order.{IsOrder}
use Rattle.tm_game_bits.proofs.Orders.{length_order}
use Rattle.tm_game_bits.proofs.Ranked.{are_ranks, ranks_rise}
use Rattle.tm_game_bits.proofs.ranks.ranks_among.Goals as goal
use Rattle.tm_game_bits.proofs.ranks.ranks_among.Goals.{After-deref}

-- what is placed is an order of the levels
placed : (c : After-deref) → IsOrder c.args.count c.deref.result.now
placed c = subst (IsOrder c.args.count) (sym c.deref.ensures.value) c.in_ok-levels.ensures.order

pub levels_by_place-requires-clause-order : goal.levels_by_place-requires-clause-order
levels_by_place-requires-clause-order c =
    let is = placed c in
    subst (λ n. IsOrder n c.deref.result.now) (sym (length_order c.args.count c.deref.result.now is)) is

pub levels_by_place-requires-clause-count : goal.levels_by_place-requires-clause-count
levels_by_place-requires-clause-count c =
    omega (arith, length_order c.args.count c.deref.result.now (placed c))

pub returns-clause-ranks : goal.returns-clause-ranks
returns-clause-ranks c =
    IfOk-weaker c.levels_by_place.result _ _
    (λ ranks are. are_ranks c.args.count c.deref.result.now (placed (goal.at.returns-clause-ranks c).After-deref)
    ranks.items are)
    c.levels_by_place.ensures

pub returns-clause-rise : goal.returns-clause-rise
returns-clause-rise c =
    IfOk-weaker c.levels_by_place.result _ _
    (λ ranks are. ranks_rise c.args.count c.deref.result.now (placed (goal.at.returns-clause-rise c).After-deref)
    ranks.items are c.args.states c.requires c.args.above.now
    (subst (IsNonDecreasingBy (key_of c.args.states c.args.above.now)) (sym c.deref.ensures.value)
    c.in_ok-levels.ensures.sorted))
    c.levels_by_place.ensures

use Rattle.std.proofs.Common.{◌<◌, ℕ, arith, sym, subst}
use Rattle.std.specs.Prelude.{sum}
use Rattle.tm_game_bits.specs.Order.{IsOrder}
use Rattle.tm_game_pool.specs.Pooled.{HasPool}
use Rattle.tm_judge.proofs.Numbers.{few_conditions}
use Rattle.tm_sem.proofs.Certified.{has_goal}
use Rattle.tm_sem.specs.StateBits.{state_widths}
use Rattle.tm_syntax.proofs.Limits as limits
use Rattle.tm_syntax.specs.Design.View.{design_tree}
use Rattle.bench.proofs.games.exact_of.Goals as goal

pub ordered_game-requires-clause-order : goal.ordered_game-requires-clause-order
ordered_game-requires-clause-order c =
    subst (IsOrder (sum (state_widths (design_tree c.args.design.now)))) (sym c.deref.ensures.value)
    c.in_ok-order.ensures

pub new-requires-clause-of : goal.new-requires-clause-of
new-requires-clause-of c = (design_tree c.args.design.now, c.in_ok-game.ensures.of)

pub new-requires-clause-goals : goal.new-requires-clause-goals
new-requires-clause-goals c =
    omega (arith, c.in_ok-game.ensures.goals, limits.few_goals (design_tree c.args.design.now) c.requires.sound)

pub new-requires-clause-fairs : goal.new-requires-clause-fairs
new-requires-clause-fairs c =
    omega (arith, c.in_ok-game.ensures.fairs, few_conditions (design_tree c.args.design.now) c.requires.sound)

pub returns : goal.returns
returns c =
    let d = design_tree c.args.design.now in
    let regular = c.sound_designs_of_texts_are_regular.ensures c.args.design.now c.requires.sound c.requires.of_text in
    let is = c.new.ensures.exact d c.in_ok-game.ensures.of in
    record {
      solve = record {
        exact = is;
        steady = regular.steady;
        some_goal = subst (λ (n : ℕ). 0 < n) (sym is.ordered.goals) (has_goal d c.requires.sound.numbered);
      };
      initial = regular.initial;
      pool = subst (HasPool d) (sym c.new.ensures.game) c.in_ok-game.ensures.pool;
    }

-- The game of a design in an order of its state bits, as checkers of certificates ask for it.
use Rattle.std.specs.Prelude.{◌≡◌, ℕ, ◌+◌, ◌<◌, ◌≤◌, ◌^◌, List, All, length, sum}
use Rattle.tm_game.specs.Game.{GameData, IsOf}
use Rattle.tm_game.specs.Start.{state_bits_in}
use Rattle.tm_game_bits.specs.Order.{IsOrder}
use Rattle.tm_game_pool.specs.Pooled.{HasPool}
use Rattle.tm_sem.specs.Fairness.{conditions}
use Rattle.tm_sem.specs.StateBits.{state_widths}
use Rattle.tm_syntax.specs.Design.{DesignTree}

-- a game is that of the design, with its pool, its levels follow the order, its inputs are of at most 64 bits, both are
-- numbered in 32 bits, and it has a set for each goal and each fairness condition
pub record IsOrderedGame (d : DesignTree) (order : List ℕ) (g : GameData) : Type 0 where
  pub of : IsOf d g
  pub follows : g.order ≡ order
  pub places : IsOrder (state_bits_in g.flat) g.order
  pub bits : length g.order ≡ sum (state_widths d)
  pub levels : length g.order + 128 ≤ g.diagrams.table.levels
  pub few_levels : length g.order + 128 < 2 ^ 32
  pub inputs : length g.terms.inputs < 2 ^ 32
  pub wide : All (λ w. w ≤ 64) g.terms.inputs
  pub goals : length g.goals ≡ length d.goals
  pub fairs : length g.fairs ≡ length (conditions d)
  pub pool : HasPool d g

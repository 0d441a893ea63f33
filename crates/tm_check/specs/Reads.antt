-- What is asked of a game so that expressions of a driver's blocks can be read in it.
use Rattle.std.specs.Prelude.{◌≡◌, ◌+◌, ◌<◌, ◌≤◌, ◌^◌, All, length}
use Rattle.tm_check.specs.declared.terms.Reading.{Reading}
use Rattle.tm_game.specs.Game.{GameData, IsOf}
use Rattle.tm_game.specs.Start.{state_bits_in}
use Rattle.tm_game_bits.specs.Order.{IsOrder}
use Rattle.tm_syntax.specs.Design.{DesignTree}

-- the levels of a state follow an order of its bits, inputs and levels are numbered in 32 bits, and each input has at
-- most 64 bits: so it is of each game that was made
pub record IsSized (g : GameData) : Type 0 where
  pub order : IsOrder (state_bits_in g.flat) g.order
  pub inputs : length g.terms.inputs < 2 ^ 32
  pub wide : All (λ w. w ≤ 64) g.terms.inputs
  pub levels : length g.order + 128 < 2 ^ 32

-- the game is one of the design, and its variables and processes are counted
pub record Reads (d : DesignTree) (g : GameData) (r : Reading) : Type 0 where
  pub of : IsOf d g
  pub sized : IsSized g
  pub vars : r.vars ≡ length d.vars
  pub processes : r.processes ≡ length d.processes

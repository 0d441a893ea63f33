-- Step operators of which one is below the other, as the lower and the upper part of an operator over cells.
use Rattle.std.specs.Prelude.{◌≡◌, ℕ, true, List}
use Rattle.tm_sem.specs.State.{StateData}
use Rattle.tm_solve.specs.Sets.{StateSet, IsAmong}
use Rattle.tm_solve.specs.Game.{Game}

-- the game with another step operator
abbrev pub with_part : Game → (StateSet → StateSet → StateSet → ℕ → ℕ → StateSet) → Game
with_part g part = record { states = g.states; goals = g.goals; fairs = g.fairs; part = part }

-- of the listed states, those that the first operator gives the second gives too
pub record IsBelow (n : List StateData) (low high : StateSet → StateSet → StateSet → ℕ → ℕ → StateSet) : Type 0 where
  pub below : (z y x : StateSet) (j i : ℕ) (s : StateData) → IsAmong s n → low z y x j i s ≡ true →
      high z y x j i s ≡ true

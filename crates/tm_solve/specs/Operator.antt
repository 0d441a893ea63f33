-- A step operator that is told by tests: where goals and fairness conditions hold, and where the state can be kept in a
-- set.
use Rattle.std.specs.Prelude.{ℕ, ◌||◌, ◌&&◌, not, List}
use Rattle.tm_sem.specs.State.{StateData}
use Rattle.tm_solve.specs.Sets.{StateSet, IsWithin}
use Rattle.tm_solve.specs.Game.{Game}

-- the tests
pub record Operator : Type 0 where
  pub goal : ℕ → StateSet
  pub fair : ℕ → StateSet
  pub stay : StateSet → StateSet

-- goal j and stay(Z), or stay(Y), or not condition i and stay(X)
abbrev pub part_of : Operator → StateSet → StateSet → StateSet → ℕ → ℕ → StateSet
part_of op z y x j i s = (op.goal j s && op.stay z s) || op.stay y s || (not (op.fair i s) && op.stay x s)

-- the state can be kept in a greater set wherever it can be kept in a smaller one
abbrev pub Rises : List StateData → Operator → Type 0
Rises n op = (a b : StateSet) → IsWithin n a b → IsWithin n (op.stay a) (op.stay b)

-- the game with this operator
abbrev pub game_of : List StateData → ℕ → ℕ → Operator → Game
game_of n goals fairs op = record { states = n; goals = goals; fairs = fairs; part = part_of op }

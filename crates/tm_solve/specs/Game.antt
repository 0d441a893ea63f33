-- What a fixpoint of a GR(1) game is taken over: a step operator on sets of states (Piterman, Pnueli and Sa'ar 2006).
use Rattle.std.specs.Prelude.{ℕ, List}
use Rattle.tm_sem.specs.State.{StateData}
use Rattle.tm_solve.specs.Sets.{StateSet, IsWithin}

-- the valid states, the numbers of goals and of fairness conditions, and the step operator: for sets Z, Y and X, a goal
-- and a condition
pub record Game : Type 0 where
  pub states : List StateData
  pub goals : ℕ
  pub fairs : ℕ
  pub part : StateSet → StateSet → StateSet → ℕ → ℕ → StateSet

-- the step operator grows with its sets
pub record IsMonotone (g : Game) : Type 0 where
  pub rises : (z z' y y' x x' : StateSet) (j i : ℕ) → IsWithin g.states z z' → IsWithin g.states y y' →
      IsWithin g.states x x' → IsWithin g.states (g.part z y x j i) (g.part z' y' x' j i)

-- where Z lies in Y neither Z nor the goal matters, and where X lies in Y neither X nor the condition
pub record IsAbsorbing (g : Game) : Type 0 where
  pub goal : (z z' y x : StateSet) (j j' i : ℕ) → IsWithin g.states z y →
      IsWithin g.states (g.part z y x j i) (g.part z' y x j' i)
  pub wait : (z y x x' : StateSet) (j i i' : ℕ) → IsWithin g.states x y →
      IsWithin g.states (g.part z y x j i) (g.part z y x' j i')

-- The exact step operator of a design, and what its solutions certify.
use Rattle.std.specs.Prelude.{◌≡◌, ℕ, ◌<◌, true, false, List, length, slice_get, Some}
use Rattle.tm_syntax.specs.Design.{DesignTree}
use Rattle.tm_sem.specs.State.{StateData}
use Rattle.tm_sem.specs.Step.{IsState, IsInitial, is_driver_turn}
use Rattle.tm_sem.specs.Play.{goal_holds}
use Rattle.tm_sem.specs.Fairness.{conditions, IsFair}
use Rattle.tm_sem.specs.Forcing.{Forced, Stays}
use Rattle.tm_sem.specs.declared.state.Move.{Move}
use Rattle.tm_sem.specs.Certificates.{DriverSets, Level, IsIn, WaitForConditions, C0, C2, C3, C5, C6, E0, E2, E3, E4, E5, IsGoodMove, no_answer}
use Rattle.tm_solve.specs.Sets.{StateSet, outside, IsAmong}
use Rattle.tm_solve.specs.Game.{Game}
use Rattle.tm_solve.specs.Operator.{Operator, part_of}

-- a game is that of a design: its states are the valid ones, and its step operator is told by the design's goals and
-- fairness conditions, and by where the driver can stay in a set and where the environment forces the state out of it
pub record IsGameOf (d : DesignTree) (op : Operator) (g : Game) : Type 0 where
  pub listed : (s : StateData) → IsAmong s g.states → IsState d s
  pub all : (s : StateData) → IsState d s → IsAmong s g.states
  pub some_goal : 0 < g.goals
  pub goals : g.goals ≡ length d.goals
  pub fairs : g.fairs ≡ length (conditions d)
  pub part : (z y x : StateSet) (j i : ℕ) (s : StateData) → IsAmong s g.states →
      g.part z y x j i s ≡ part_of op z y x j i s
  pub goal : (j : ℕ) (s : StateData) → IsState d s → op.goal j s ≡ goal_holds d s j
  pub fair : (i : ℕ) (s : StateData) → i < length (conditions d) → IsState d s → op.fair i s ≡ true → IsFair d s i
  pub unfair : (i : ℕ) (s : StateData) → i < length (conditions d) → IsState d s → op.fair i s ≡ false → ¬ IsFair d s i
  pub stay : (a : StateSet) (s : StateData) → IsState d s → op.stay a s ≡ true → Stays d (IsIn d a) s
  pub leave : (a : StateSet) (s : StateData) → IsState d s → op.stay a s ≡ false → Forced d (IsIn d (outside a)) s

-- what the move form of a driver's certificate asks beside its initial states
pub record MeetsRanks (d : DesignTree) (c : DriverSets) : Type 0 where
  pub goals : length c.goals ≡ length d.goals
  pub fairs : WaitForConditions d c
  pub c0 : C0 d c
  pub c2 : C2 d c
  pub c3 : C3 d c
  pub c4 : (s : StateData) (goal : ℕ) → IsIn d c.region s → goal < length d.goals → is_driver_turn d s ≡ true →
      (move : Move) × IsGoodMove d c goal s move
  pub c5 : C5 d no_answer c
  pub c6 : C6 d no_answer c

-- what an environment's certificate asks beside its initial state
pub record MeetsLevels (d : DesignTree) (levels : List Level) : Type 0 where
  pub goals : (k : ℕ) (l : Level) → slice_get levels k ≡ Some l → l.goal < length d.goals
  pub chains : (k : ℕ) (l : Level) → slice_get levels k ≡ Some l → length l.chains ≡ length (conditions d)
  pub e0 : E0 d levels
  pub e2 : E2 d levels
  pub e3 : E3 d levels
  pub e4 : E4 d levels
  pub e5 : E5 d levels

-- some initial state is outside a set
abbrev pub LeavesOut : DesignTree → StateSet → Type 0
LeavesOut d region = (s : StateData) × IsInitial d s × IsIn d (outside region) s

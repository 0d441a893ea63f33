-- What the environment can force in one step, and where the driver can stay (controllable predecessors, as in Piterman,
-- Pnueli and Sa'ar 2006, with this project's own turn rule).
use Rattle.std.specs.Prelude.{◌≡◌, ℕ, true, false, List}
use Rattle.tm_syntax.specs.Design.{DesignTree}
use Rattle.tm_sem.specs.declared.state.Move.{Move}
use Rattle.tm_sem.specs.declared.state.Outcome.TheVariants.{Next, Error}
use Rattle.tm_sem.specs.State.{StateData}
use Rattle.tm_sem.specs.Step.{Step, IsState, IsAllowed, is_driver_move, is_driver_turn}

-- some choices of a move err, or lead into a set
pub data Leads (d : DesignTree) (into : StateData → Type 0) (s : StateData) (move : Move) : Type 0 where
  errs : (choices : List ℕ) → Step d s move choices Error → Leads d into s move
  lands : (choices : List ℕ) (t : StateData) → Step d s move choices (Next t) → into t → Leads d into s move

-- the environment forces an error or a state of the set: by an actor of its own, or by each move that the driver is
-- allowed where it can be picked
pub data Forced (d : DesignTree) (into : StateData → Type 0) (s : StateData) : Type 0 where
  by_environment : (move : Move) → is_driver_move move ≡ false → Leads d into s move → Forced d into s
  by_driver : is_driver_turn d s ≡ true → ((move : Move) → IsAllowed d s move → Leads d into s move) → Forced d into s

-- a move errs for no choices, and ends in the set
pub record Keeps (d : DesignTree) (within : StateData → Type 0) (s : StateData) (move : Move) : Type 0 where
  pub no_error : (choices : List ℕ) → ¬ Step d s move choices Error
  pub ends_within : (choices : List ℕ) (t : StateData) → Step d s move choices (Next t) → within t

-- no stutter or process step from here errs or leaves the set
abbrev pub IsCalm : DesignTree → (StateData → Type 0) → StateData → Type 0
IsCalm d within s = (move : Move) → is_driver_move move ≡ false → Keeps d within s move

-- the driver stays in the set: no other actor errs or leaves it, and at its turn some allowed move does not either
pub record Stays (d : DesignTree) (within : StateData → Type 0) (s : StateData) : Type 0 where
  pub valid : IsState d s
  pub calm : IsCalm d within s
  pub driver : is_driver_turn d s ≡ true → (move : Move) × IsAllowed d s move × Keeps d within s move

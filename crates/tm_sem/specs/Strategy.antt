-- Plays of a driver, and what a good driver guarantees.
use Rattle.std.specs.Prelude.{◌≡◌, ℕ, ◌<◌, true, false, List, [], ◌∷◌, ◌++◌, map, length, slice_index}
use Rattle.tm_syntax.specs.Design.{DesignTree}
use Rattle.tm_sem.specs.declared.state.Move.{Move}
use Rattle.tm_sem.specs.declared.state.Outcome.TheVariants.{Error}
use Rattle.tm_sem.specs.State.{StateData}
use Rattle.tm_sem.specs.Step.{Step, IsAllowed, is_driver_move, is_driver_turn}
use Rattle.tm_sem.specs.Play.{Entry, IsPlay, last_state, goal_holds, pending, pending_at}
use Rattle.tm_sem.specs.Fairness.{HasRounds}

-- the driver's moves in steps from a state, before which this goal was pending, are what the strategy answers there
abbrev pub AreAnswered : DesignTree → (StateData → ℕ → Move → Type 0) → ℕ → StateData → List Entry → Type 0
AreAnswered d answers g s [] = Unit {0}
AreAnswered d answers g s (e ∷ es) =
    (is_driver_move e.move ≡ true → answers s (pending_at d g s) e.move)
    × AreAnswered d answers (pending_at d g s) e.state es

-- a play in which each driver move is the strategy's answer at the state before it and the goal that is pending there
pub record IsDriven (d : DesignTree) (answers : StateData → ℕ → Move → Type 0) (first : StateData)
    (entries : List Entry) : Type 0 where
  pub play : IsPlay d first entries
  pub answered : AreAnswered d answers 0 first entries

-- the states of a play
abbrev pub states_of : StateData → List Entry → List StateData
states_of first entries = first ∷ map (λ (e : Entry). e.state) entries

-- goal j is pending at each state of a stretch and holds at none, where goal g was pending before it
abbrev pub Waits : DesignTree → ℕ → ℕ → List StateData → Type 0
Waits d j g [] = Unit {0}
Waits d j g (s ∷ rest) = (pending_at d g s ≡ j) × (goal_holds d s j ≡ false) × Waits d j (pending_at d g s) rest

-- at state s, where goal g is pending, no other actor errs, and the strategy's answers are allowed and do not err
pub record IsSafeAt (d : DesignTree) (answers : StateData → ℕ → Move → Type 0) (s : StateData) (g : ℕ) : Type 0 where
  pub environment : (move : Move) (choices : List ℕ) → is_driver_move move ≡ false → ¬ Step d s move choices Error
  pub answered : is_driver_turn d s ≡ true → (move : Move) × answers s g move
  pub allowed : is_driver_turn d s ≡ true → (move : Move) → answers s g move → IsAllowed d s move
  pub driver : (move : Move) (choices : List ℕ) → answers s g move → ¬ Step d s move choices Error

-- each stretch of these states in which goal j is pending and holds nowhere has fewer rounds than the rank of j
abbrev pub BoundsRounds : DesignTree → List ℕ → List StateData → Type 0
BoundsRounds d ranks states =
    (j k : ℕ) (before stretch after : List StateData) → j < length d.goals → states ≡ before ++ (stretch ++ after) →
    Waits d j (pending d before) stretch → HasRounds d k stretch → k < slice_index ranks j

-- a good driver: no driven play meets an error or a forbidden move, and none makes the pending goal wait too long
pub record Good (d : DesignTree) (answers : StateData → ℕ → Move → Type 0) (ranks : List ℕ) : Type 0 where
  pub safe : (first : StateData) (entries : List Entry) → IsDriven d answers first entries →
      IsSafeAt d answers (last_state first entries) (pending d (states_of first entries))
  pub bounded : (first : StateData) (entries : List Entry) → IsDriven d answers first entries →
      BoundsRounds d ranks (states_of first entries)

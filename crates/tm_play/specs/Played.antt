-- The play that a text of choices and a driver's blocks tell, and where it stops.
use Rattle.std.specs.Prelude.{◌≡◌, ℕ, ◌+◌, true, false, ◌⊎◌, None, Some, List, [], ◌∷◌, ◌++◌, is_some, length, slice_get}
use Rattle.tm_syntax.specs.Design.{DesignTree}
use Rattle.tm_sem.specs.State.{StateData}
use Rattle.tm_sem.specs.declared.state.Move.{Move}
use Rattle.tm_sem.specs.declared.state.Move.TheVariants as moves
use Rattle.tm_sem.specs.declared.state.Outcome.TheVariants as outcomes
use Rattle.tm_sem.specs.Step.{is_driver_turn, work, IsState, Step, IsAllowed}
use Rattle.tm_sem.specs.Play.{Entry, IsPlay, pending_at}
use Rattle.tm_cir.specs.Tree.{BlockTree}
use Rattle.tm_cir.specs.Answer.{Answers}
use Rattle.tm_sem.specs.First.{IsFirst}
use Rattle.tm_play.specs.declared.input.script.Actor.{Actor}
use Rattle.tm_play.specs.declared.input.script.Actor.TheVariants.{Stutter, Process, Driver}
use Rattle.tm_play.specs.declared.ending.StopWhy.{StopWhy}
use Rattle.tm_play.specs.declared.ending.StopWhy.TheVariants.{Error, Forbidden, Illegal}
use Rattle.tm_play.specs.declared.ending.PlayEnd.{PlayEnd}
use Rattle.tm_play.specs.declared.ending.PlayEnd.TheVariants.{Played, Stopped}
use Rattle.tm_play.specs.declared.ending.PlayHalt.{PlayHalt}
use Rattle.tm_play.specs.declared.ending.PlayHalt.TheVariants.{Ended, Stuck}
use Rattle.tm_play.specs.Script.{TurnData, ScriptData}
use Rattle.tm_play.specs.Report.{state_line}

-- the move of a step: the driver's, where it can be picked, is what the blocks answer
abbrev pub IsMoveOf : DesignTree → List BlockTree → StateData → ℕ → Actor → Move → Type 0
IsMoveOf d bs s g Stutter m = m ≡ moves.Stutter
IsMoveOf d bs s g (Process p) m = m ≡ moves.Process p
IsMoveOf d bs s g Driver m = (is_driver_turn d s ≡ true) × Answers bs s g m

-- from a state with this pending goal on, each entry is the move of its step, with the step's choices
abbrev pub Follows : DesignTree → List BlockTree → StateData → ℕ → List TurnData → List Entry → Type 0
Follows d bs s g turns [] = Unit {0}
Follows d bs s g [] (e ∷ es) = ⊥
Follows d bs s g (t ∷ ts) (e ∷ es) =
    IsMoveOf d bs s g t.actor e.move × (e.choices ≡ t.choices)
    × Follows d bs e.state (pending_at d g e.state) ts es

-- a play that takes the start line and then step after step, the driver's move being the blocks' answer
pub record IsPlayOf
    (d : DesignTree) (bs : List BlockTree) (c : ScriptData) (first : StateData) (entries : List Entry) : Type 0 where
  pub start : IsFirst d c.start first
  pub play : IsPlay d first entries
  pub follows : Follows d bs first (pending_at d 0 first) c.turns entries

-- the last state of a play
abbrev pub state_after : StateData → List Entry → StateData
state_after s [] = s
state_after s (e ∷ es) = state_after e.state es

-- the goal that is pending at the last state
abbrev pub goal_after : DesignTree → ℕ → List Entry → ℕ
goal_after d g [] = g
goal_after d g (e ∷ es) = goal_after d (pending_at d g e.state) es

-- the lines of entries, numbered on from n
abbrev pub entry_lines : DesignTree → ℕ → ℕ → List Entry → List ℕ
entry_lines d n g [] = []
entry_lines d n g (e ∷ es) =
    state_line d n (Some e.move) e.state (pending_at d g e.state)
    ++ entry_lines d (n + 1) (pending_at d g e.state) es

-- the lines of a play
abbrev pub play_text : DesignTree → StateData → List Entry → List ℕ
play_text d first entries =
    state_line d 0 None first (pending_at d 0 first) ++ entry_lines d 1 (pending_at d 0 first) entries

-- a play of n steps, its last state, the goal pending there, and its lines
pub record Reaches
    (d : DesignTree) (bs : List BlockTree) (c : ScriptData)
    (n : ℕ) (s : StateData) (g : ℕ) (text : List ℕ) : Type 0 where
  pub first : StateData
  pub entries : List Entry
  pub play : IsPlayOf d bs c first entries
  pub count : length entries ≡ n
  pub state : state_after first entries ≡ s
  pub goal : goal_after d (pending_at d 0 first) entries ≡ g
  pub lines : play_text d first entries ≡ text

-- why a step from a state has no next one: an error; a driver's answer that is not allowed; or the driver cannot be
-- picked, or the choices give no outcome
abbrev pub Stops : DesignTree → List BlockTree → StateData → ℕ → TurnData → StopWhy → Type 0
Stops d bs s g t Error = (m : Move) × IsMoveOf d bs s g t.actor m × Step d s m t.choices outcomes.Error
Stops d bs s g t Forbidden = (m : Move) × (t.actor ≡ Driver) × IsMoveOf d bs s g t.actor m × ¬ (IsAllowed d s m)
Stops d bs s g t Illegal =
    ((t.actor ≡ Driver) × (is_driver_turn d s ≡ false))
    ⊎ ((m : Move) × IsMoveOf d bs s g t.actor m × Step d s m t.choices outcomes.NoOutcome
    × (t.actor ≡ Driver → IsAllowed d s m))

-- how the play of choices ends, with the lines of its states
pub data Ends (d : DesignTree) (bs : List BlockTree) (c : ScriptData) : List ℕ → PlayEnd → Type 0 where
  plays : {s : StateData} {g : ℕ} {text : List ℕ} →
      Reaches d bs c (length c.turns) s g text → Ends d bs c text (Played (length c.turns))
  stops : {n : ℕ} {s : StateData} {g : ℕ} {text : List ℕ} {t : TurnData} {why : StopWhy} →
      Reaches d bs c n s g text → slice_get c.turns n ≡ Some t → Stops d bs s g t why →
      Ends d bs c text (Stopped (n + 1) why)
  begins_badly : ((s : StateData) → ¬ (IsFirst d c.start s)) → Ends d bs c [] (Stopped 0 Illegal)

-- the lines of the states of the play so far
pub data IsPart (d : DesignTree) (bs : List BlockTree) (c : ScriptData) : List ℕ → Type 0 where
  nothing : IsPart d bs c []
  part : {n : ℕ} {s : StateData} {g : ℕ} {text : List ℕ} → Reaches d bs c n s g text → IsPart d bs c text

-- a play with these lines goes on to the step of this number, where the driver's answer at a valid state has no
-- outcome, although the turn rule permits it: whether it is allowed tells why the play stops
pub record IsStuck (d : DesignTree) (bs : List BlockTree) (c : ScriptData) (text : List ℕ) (step : ℕ) (s : StateData)
    (m : Move) : Type 0 where
  pub state : IsState d s
  pub permitted : is_some (work d s m) ≡ true
  pub lines : IsPart d bs c text
  pub forbidden : ¬ (IsAllowed d s m) → Ends d bs c text (Stopped step Forbidden)
  pub illegal : IsAllowed d s m → Ends d bs c text (Stopped step Illegal)

-- how far the play of choices goes, with the lines of its states
abbrev pub Halts : DesignTree → List BlockTree → ScriptData → List ℕ → PlayHalt → Type 0
Halts d bs c text (Ended end) = Ends d bs c text end
Halts d bs c text (Stuck step s m) = IsStuck d bs c text step s m

-- What one step of the choices leads to.
use Rattle.std.specs.Prelude.{◌≡◌, ◌≢◌, ℕ, ◌<◌, true, false, Option, List, MatchOption, is_some, length}
use Rattle.tm_syntax.specs.Design.{DesignTree}
use Rattle.tm_sem.specs.State.{StateData}
use Rattle.tm_sem.specs.declared.state.Move.{Move}
use Rattle.tm_sem.specs.declared.state.Outcome.TheVariants as outcomes
use Rattle.tm_sem.specs.Step.{is_driver_turn, work, IsState, IsInitial, IsAllowed, Step}
use Rattle.tm_sem.specs.First.{IsFirst}
use Rattle.tm_sem.specs.Play.{pending_at}
use Rattle.tm_cir.specs.Tree.{BlockTree}
use Rattle.tm_play.specs.declared.input.script.Actor.{Actor}
use Rattle.tm_play.specs.declared.input.script.Actor.TheVariants.{Driver}
use Rattle.tm_play.specs.declared.ending.StopWhy.TheVariants.{Error, Forbidden, Illegal}
use Rattle.tm_play.specs.declared.play.turn.Position.{Position}
use Rattle.tm_play.specs.declared.play.turn.TurnOutcome.{TurnOutcome}
use Rattle.tm_play.specs.declared.play.turn.TurnOutcome.TheVariants.{To, Stop, Stuck}
use Rattle.tm_play.specs.Script.{TurnData}
use Rattle.tm_play.specs.Played.{IsMoveOf, Stops}

-- the move of a step; none where the driver is to move and cannot be picked
abbrev pub MovesBy : DesignTree → List BlockTree → StateData → ℕ → Actor → Option Move → Type 0
MovesBy d bs s g actor m = MatchOption m ((actor ≡ Driver) × (is_driver_turn d s ≡ false)) (IsMoveOf d bs s g actor)

-- a position of a play behind a state with this pending goal: a valid state, and the goal that is pending there
pub record IsPosition (d : DesignTree) (g : ℕ) (p : Position) : Type 0 where
  pub state : IsState d p.state
  pub goal : p.goal ≡ pending_at d g p.state
  pub below : p.goal < length d.goals

-- the position that choices give a play to begin with; none where they give no first state
abbrev pub Begins : DesignTree → List ℕ → Option Position → Type 0
Begins d choices p =
    MatchOption p ((s : StateData) → ¬ (IsFirst d choices s))
    (λ begin. IsFirst d choices begin.state × IsInitial d begin.state × IsPosition d 0 begin)

-- a move of the step and the position that it leads to, why it leads to none, or an answer of the driver's that the
-- turn rule permits and that has no outcome
abbrev pub Advances : DesignTree → List BlockTree → StateData → ℕ → TurnData → TurnOutcome → Type 0
Advances d bs s g t (To m next) =
    IsMoveOf d bs s g t.actor m × Step d s m t.choices (outcomes.Next next.state) × IsPosition d g next
Advances d bs s g t (Stop why) = Stops d bs s g t why
Advances d bs s g t (Stuck m) =
    (t.actor ≡ Driver) × IsMoveOf d bs s g t.actor m × Step d s m t.choices outcomes.NoOutcome
    × (is_some (work d s m) ≡ true)

-- what a move without an outcome leads to: an answer of the driver's is not allowed, or the turn rule permits it, and
-- any other meets choices that are not legal
abbrev pub IsWithoutOutcome : DesignTree → StateData → Actor → Move → TurnOutcome → Type 0
IsWithoutOutcome d s actor m (To n next) = ⊥
IsWithoutOutcome d s actor m (Stop Error) = ⊥
IsWithoutOutcome d s actor m (Stop Forbidden) = (actor ≡ Driver) × ¬ (IsAllowed d s m)
IsWithoutOutcome d s actor m (Stop Illegal) = actor ≢ Driver
IsWithoutOutcome d s actor m (Stuck n) = (actor ≡ Driver) × (n ≡ m) × (is_some (work d s m) ≡ true)

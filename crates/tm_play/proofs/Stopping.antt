-- Why a play stops.
use Rattle.std.proofs.Common.{◌≡◌, ℕ, true, false, Option, None, Some, List, inr, refl, sym, subst}
use Rattle.std.specs.Prelude.{MatchOption, is_some}
use Rattle.tm_syntax.specs.Design.{DesignTree}
use Rattle.tm_sem.specs.State.{StateData}
use Rattle.tm_sem.specs.declared.state.Move.{Move}
use Rattle.tm_sem.specs.declared.state.Outcome.{Outcome}
use Rattle.tm_sem.specs.declared.state.Outcome.TheVariants as outcomes
use Rattle.tm_sem.specs.Step.{work, Work, Comes, Step, IsAllowed}
use Rattle.tm_cir.specs.Tree.{BlockTree}
use Rattle.tm_play.specs.declared.ending.StopWhy.TheVariants.{Error, Forbidden, Illegal}
use Rattle.tm_play.specs.declared.play.turn.TurnOutcome.{TurnOutcome}
use Rattle.tm_play.specs.declared.play.turn.TurnOutcome.TheVariants.{To, Stop, Stuck}
use Rattle.tm_play.specs.Script.{TurnData}
use Rattle.tm_play.specs.Played.{IsMoveOf}
use Rattle.tm_play.specs.Inner.Advance.{Advances, IsWithoutOutcome}

-- a move without an outcome stops the play, or the play is stuck at it
pub none_advances : (d : DesignTree) (bs : List BlockTree) (s : StateData) (g : ℕ) (t : TurnData) (m : Move)
    (o : TurnOutcome) →
    IsMoveOf d bs s g t.actor m → Step d s m t.choices outcomes.NoOutcome → IsWithoutOutcome d s t.actor m o →
    Advances d bs s g t o
none_advances d bs s g t m (To n next) moved step leads = elim leads [ ]
none_advances d bs s g t m (Stop Error) moved step leads = elim leads [ ]
none_advances d bs s g t m (Stop Forbidden) moved step leads = (m, leads.0, moved, leads.1)
none_advances d bs s g t m (Stop Illegal) moved step leads = inr (m, moved, step, λ driver. absurd (leads driver))
none_advances d bs s g t m (Stuck n) moved step leads =
    let same : m ≡ n = sym leads.1 in (
      leads.0,
      subst (λ (x : Move). IsMoveOf d bs s g t.actor x) same moved,
      subst (λ (x : Move). Step d s x t.choices outcomes.NoOutcome) same step,
      subst (λ (x : Move). is_some (work d s x) ≡ true) same leads.2,
    )

-- a move for which there is no work has no outcome
no_work_none : (d : DesignTree) (s : StateData) (w : Option Work) (choices : List ℕ) (o : Outcome) →
    is_some w ≡ false → MatchOption w (o ≡ outcomes.NoOutcome) (λ w. Comes d s w choices o) → o ≡ outcomes.NoOutcome
no_work_none d s None choices o none step = step
no_work_none d s (Some w) choices o none step = cc

-- a move that the turn rule does not permit is not allowed
pub not_permitted : (d : DesignTree) (s : StateData) (m : Move) → is_some (work d s m) ≡ false → ¬ IsAllowed d s m
not_permitted d s m none allowed =
    allowed.4 (no_work_none d s (work d s m) allowed.1 allowed.2 none allowed.3)

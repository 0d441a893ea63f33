-- How a play ends that goes so far.
use Rattle.std.proofs.Common.{◌≡◌, ℕ, Bool, true, false, List, sym, subst, ◌∙◌}
use Rattle.std.specs.Prelude.{◌↔◌, IsTrue}
use Rattle.std.proofs.lemmas.Bool.{true≢false}
use Rattle.tm_syntax.specs.Design.{DesignTree}
use Rattle.tm_sem.specs.State.{StateData}
use Rattle.tm_sem.specs.Step.{IsAllowed, IsState}
use Rattle.tm_sem.specs.declared.state.Move.{Move}
use Rattle.tm_cir.specs.Tree.{BlockTree}
use Rattle.tm_play.specs.declared.ending.PlayEnd.{PlayEnd}
use Rattle.tm_play.specs.declared.ending.PlayEnd.TheVariants.{Stopped}
use Rattle.tm_play.specs.declared.ending.PlayHalt.{PlayHalt}
use Rattle.tm_play.specs.declared.ending.PlayHalt.TheVariants.{Ended, Stuck}
use Rattle.tm_play.specs.declared.ending.StopWhy.TheVariants.{Forbidden, Illegal}
use Rattle.tm_play.specs.Script.{ScriptData}
use Rattle.tm_play.specs.Played.{Ends, plays, stops, begins_badly, Halts, IsPart, nothing, part, IsStuck}

ended_part : (d : DesignTree) (bs : List BlockTree) (c : ScriptData) (text : List ℕ) (end : PlayEnd) →
    Ends d bs c text end → IsPart d bs c text
ended_part d bs c text end (plays reaches) = part reaches
ended_part d bs c text end (stops reaches at stop) = part reaches
ended_part d bs c text end (begins_badly none) = nothing

module _ (d : DesignTree) (bs : List BlockTree) (c : ScriptData) (text : List ℕ) where
  -- the lines that were put are those of the play so far
  pub halted_part : (halt : PlayHalt) → Halts d bs c text halt → IsPart d bs c text
  halted_part (Ended end) halts = ended_part d bs c text end halts
  halted_part (Stuck step s m) halts = halts.lines

  -- an end is that of the play
  pub ended_so : (halt : PlayHalt) (end : PlayEnd) → halt ≡ Ended end → Halts d bs c text halt → Ends d bs c text end
  ended_so halt end is halts = subst (Halts d bs c text) is halts

  module _ (halt : PlayHalt) (step : ℕ) (s : StateData) (m : Move) (is : halt ≡ Stuck step s m)
      (halts : Halts d bs c text halt) where
    stuck : IsStuck d bs c text step s m
    stuck = subst (Halts d bs c text) is halts

    -- a play is stuck at a valid state
    pub stuck_state : IsState d s
    stuck_state = stuck.state

    -- and ends by the answer, or by the choices
    pub allowed_ends : (found : Bool) → (IsTrue found ↔ IsAllowed d s m) → found ≡ true →
        Ends d bs c text (Stopped step Illegal)
    allowed_ends found tells so = stuck.illegal (tells.0 so)

    pub refused_ends : (found : Bool) → (IsTrue found ↔ IsAllowed d s m) → found ≡ false →
        Ends d bs c text (Stopped step Forbidden)
    refused_ends found tells so = stuck.forbidden (λ allowed. true≢false (sym (tells.1 allowed) ∙ so))

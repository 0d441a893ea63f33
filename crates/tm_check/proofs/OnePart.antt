-- A set of the states at which a part is found to fail decides on that part.
use Rattle.std.proofs.Common.{◌≡◌, ℕ, [], ◌∷◌, ◌∙◌}
use Rattle.tm_check.specs.Reads.{IsSized}
use Rattle.tm_check.specs.Tried.{AreTried, IsFirstFailure}
use Rattle.tm_check.proofs.States.{test_all, test_only}
use Rattle.tm_dd.specs.declared.node.NodeId.{NodeId}
use Rattle.tm_verdict.specs.Found.{IsFound, NamesStates, RestsOn}
use Rattle.tm_verdict.specs.Regular.{IsDriver, IsRegular}
use Rattle.tm_verdict.proofs.DriverFailures.{fails, found}
use Rattle.tm_verdict.proofs.DriverPasses.{passes}
use Rattle.tm_game.specs.Game.{GameData, IsOf, IsStates}
use Rattle.tm_sem.specs.declared.state.Move.{Move}
use Rattle.tm_sem.specs.Certificates.{DriverSets}
use Rattle.tm_sem.specs.State.{StateData}
use Rattle.tm_syntax.specs.Design.{DesignTree}
use Rattle.tm_verdict.specs.declared.verdict.Verdict.{Verdict}
use Rattle.tm_verdict.specs.declared.verdict.Verdict.TheVariants.{Accepted, Refused}
use Rattle.tm_verdict.specs.Driver.{DriverPart, FailsAt, IsReported, adds_state, begins_within, driver_condition}
use Rattle.tm_verdict.specs.Driver.{driver_goal, driver_meaning, falls_when_fair, is_answered, is_calm, is_ranked}
use Rattle.tm_verdict.specs.Driver.{lies_within, never_rises}
use Rattle.tm_verdict.specs.Reported.{IsFirstOf}
use Rattle.tm_verdict.proofs.Trying.{refused_alone}

module _ (d : DesignTree) (regular : IsRegular d) (answers : StateData → ℕ → Move → Type 0)
    (driver : IsDriver answers) (c : DriverSets) where
  reported : (part : DriverPart) (s : StateData) → NamesStates part → IsFirstOf d (FailsAt d answers c part) s →
      IsReported d answers c part s
  reported (lies_within goal k) s names first = first
  reported (adds_state goal k) s names first = absurd names
  reported begins_within s names first = first
  reported (is_ranked goal) s names first = first
  reported is_calm s names first = first
  reported (is_answered goal) s names first = first
  reported (never_rises goal) s names first = first
  reported (falls_when_fair goal) s names first = first

  -- a set of the states at which a part is found to fail decides on it
  pub part_tried : (g : GameData) → IsOf d g → IsSized g → (part : DriverPart) (failing : NodeId) (condition goal : ℕ)
      (v : Verdict) → NamesStates part → RestsOn d answers c part → condition ≡ driver_condition part →
      goal ≡ driver_goal part → IsStates d g.order g.diagrams.table (IsFound d answers c part) failing →
      IsFirstFailure d g failing condition goal v → AreTried d answers c (part ∷ []) v
  part_tried g of sized part failing condition goal Accepted names rests number of_goal is nowhere = (
    passes d regular answers c part names
        (λ s fail.
        let at = found d regular answers driver c part rests s fail in
        nowhere s
        (at.0, test_all d g of sized g.diagrams.table (IsFound d answers c part) failing is s at.0 at.1)),
    tt,
  )
  part_tried g of sized part failing condition goal (Refused which j s) names rests number of_goal is first =
      refused_alone (driver_meaning d answers c) part which j s (first.0 ∙ number) (first.1 ∙ of_goal)
      (reported part s names (record {
        here = fails d regular answers driver c part rests s first.2.here.0
            (test_only d g of sized g.diagrams.table (IsFound d answers c part) failing is s first.2.here.0
            first.2.here.1);
        none_before = λ t fail.
            let at = found d regular answers driver c part rests t fail in
            first.2.none_before t
            (at.0, test_all d g of sized g.diagrams.table (IsFound d answers c part) failing is t at.0 at.1);
      }))

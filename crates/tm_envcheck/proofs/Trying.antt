-- What a verdict on one part shows.
use Rattle.std.proofs.Common.{◌≡◌, ℕ, Bool, true, List, [], ◌∷◌, ◌∙◌}
use Rattle.std.specs.Prelude.{◌↔◌}
use Rattle.tm_envcheck.specs.Inner.Reports.{IsFailure, IsInitialReport, IsWant}
use Rattle.tm_envcheck.specs.Tried.{AreTried}
use Rattle.tm_verdict.specs.Levels.{IsDecided, IsFound, NamesStates, RestsOn}
use Rattle.tm_verdict.specs.Regular.{IsRegular}
use Rattle.tm_verdict.proofs.LevelFailures.{fails, found}
use Rattle.tm_verdict.proofs.LevelPasses.{passes}
use Rattle.tm_sem.specs.Certificates.{IsIn, Level}
use Rattle.tm_sem.specs.State.{StateData}
use Rattle.tm_sem.specs.Step.{IsInitial, IsState}
use Rattle.tm_syntax.specs.Design.{DesignTree}
use Rattle.tm_verdict.specs.declared.verdict.Verdict.{Verdict}
use Rattle.tm_verdict.specs.declared.verdict.Verdict.TheVariants.{Accepted, Refused}
use Rattle.tm_verdict.specs.Environment.{FailsAt, IsReported, LevelPart, Passes, begins_lost, grows, has_new}
use Rattle.tm_verdict.specs.Environment.{holds_before, is_chain, is_forced_on, is_forced_within, is_in_chain}
use Rattle.tm_verdict.specs.Environment.{level_condition, level_goal, level_meaning, lies_in, waits_or_falls}
use Rattle.tm_verdict.specs.Reported.{IsFirstOf}
use Rattle.tm_verdict.proofs.Trying.{refused_alone}

module _ (d : DesignTree) (levels : List Level) where
  first_reported : (part : LevelPart) (s : StateData) → NamesStates part → IsFirstOf d (FailsAt d levels part) s →
      IsReported d levels part s
  first_reported (holds_before k) s names first = first
  first_reported (has_new k) s names first = absurd names
  first_reported (is_chain k i) s names first = absurd names
  first_reported (grows k i x) s names first = first
  first_reported (lies_in k i x) s names first = first
  first_reported begins_lost s names first = absurd names
  first_reported (is_forced_on k) s names first = first
  first_reported (is_in_chain k i) s names first = first
  first_reported (is_forced_within k) s names first = first
  first_reported (waits_or_falls k i) s names first = first

  -- a part that names states, which a set tells
  pub part_tried : IsRegular d → (part : LevelPart) → NamesStates part → RestsOn d levels part →
      ((s : StateData) → IsState d s → IsDecided d levels part s) → (set : StateData → Bool) →
      ((s : StateData) → IsState d s → (set s ≡ true) ↔ IsFound d levels part s) → (condition goal : ℕ) →
      condition ≡ level_condition part → goal ≡ level_goal levels part → (v : Verdict) →
      IsFailure d set condition goal v → AreTried d levels (part ∷ []) v
  part_tried regular part names rests decided set tells condition goal number of_goal Accepted nowhere = (
    passes d regular levels part names rests decided
        (λ s failing.
        let is = found d regular levels part rests s failing in nowhere s (is.0, (tells s is.0).1 is.1)),
    tt,
  )
  part_tried regular part names rests decided set tells condition goal number of_goal (Refused c g s) is =
      refused_alone (level_meaning d levels) part c g s (is.0 ∙ number) (is.1 ∙ of_goal)
      (first_reported part s names (record {
        here = fails d regular levels part s is.2.here.0 ((tells s is.2.here.0).0 is.2.here.1);
        none_before = λ t failing.
            let other = found d regular levels part rests t failing in
            is.2.none_before t (other.0, (tells t other.0).1 other.1);
      }))

  -- a part that fails, and names no state
  pub part_fails : (part : LevelPart) → ((s : StateData) → IsFirstOf d (IsInitial d) s → IsReported d levels part s) →
      (condition goal : ℕ) → condition ≡ level_condition part → goal ≡ level_goal levels part → (v : Verdict) →
      IsInitialReport d condition goal v → AreTried d levels (part ∷ []) v
  part_fails part reported condition goal number of_goal Accepted is = absurd is
  part_fails part reported condition goal number of_goal (Refused c g s) is =
      refused_alone (level_meaning d levels) part c g s (is.0 ∙ number) (is.1 ∙ of_goal) (reported s is.2)

  -- a part that asks for a state of a set
  pub part_wanted : (part : LevelPart) (set : StateData → Bool) →
      ((s : StateData) → IsIn d set s → Passes d levels part) →
      ((s : StateData) → ((t : StateData) → ¬ IsIn d set t) → IsFirstOf d (IsInitial d) s →
      IsReported d levels part s) → (condition goal : ℕ) → condition ≡ level_condition part →
      goal ≡ level_goal levels part → (v : Verdict) → IsWant d set condition goal v → AreTried d levels (part ∷ []) v
  part_wanted part set enough reported condition goal number of_goal Accepted is = (enough is.0 is.1, tt)
  part_wanted part set enough reported condition goal number of_goal (Refused c g s) is =
      refused_alone (level_meaning d levels) part c g s (is.1 ∙ number) (is.2 ∙ of_goal) (reported s is.0 is.3)

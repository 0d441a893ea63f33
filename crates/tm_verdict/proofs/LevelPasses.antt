-- A part of an environment's certificate that fails nowhere passes.
use Rattle.std.proofs.Common.{ℕ, ◌⊎◌, inl, inr, Bool, List}
use Rattle.std.specs.List.{list_any}
use Rattle.tm_syntax.specs.Design.{DesignTree}
use Rattle.tm_sem.specs.Fairness.{IsFair}
use Rattle.tm_sem.specs.Forcing.{Forced}
use Rattle.tm_sem.specs.State.{StateData}
use Rattle.tm_sem.specs.Step.{IsState}
use Rattle.tm_sem.specs.Certificates.{IsIn, Level, level_before}
use Rattle.tm_verdict.specs.Environment.{FailsAt, LevelPart, Passes, begins_lost, grows, has_new, holds_before, is_chain, is_forced_on, is_forced_within, is_in_chain, lies_in, waits_or_falls}
use Rattle.tm_verdict.specs.Levels.{IsDecided, IsForced, NamesStates, RestsOn, lower_at}
use Rattle.tm_verdict.specs.Regular.{IsRegular}
use Rattle.tm_verdict.proofs.DriverPasses.{holds}
use Rattle.tm_verdict.proofs.LevelFailures.{at_place, forced_valid, is_forced, place}

module _ (d : DesignTree) (regular : IsRegular d) (levels : List Level) where
  -- a part fails at no state
  abbrev FailsNowhere : LevelPart → Type 0
  FailsNowhere part = (s : StateData) → ¬ FailsAt d levels part s

  -- what it asks is decided at each valid state
  abbrev IsDecidedOf : LevelPart → Type 0
  IsDecidedOf part = (s : StateData) → IsState d s → IsDecided d levels part s

  before : (k : ℕ) → FailsNowhere (holds_before k) → Passes d levels (holds_before k)
  before k nowhere l is s here = (here.0, holds (l.set s) (λ out. nowhere s (l, is, here, out)))

  grown : (k i x : ℕ) → FailsNowhere (grows k i x) → Passes d levels (grows k i x)
  grown k i x nowhere l chain set is of at s here =
      (here.0, holds (set s) (λ out. nowhere s (l, chain, set, is, of, at, here, out)))

  lies : (k i x : ℕ) → FailsNowhere (lies_in k i x) → Passes d levels (lies_in k i x)
  lies k i x nowhere l chain set is of at s here =
      (here.0, holds (l.set s) (λ out. nowhere s (l, chain, set, is, of, at, here, out)))

  forced_on : (k : ℕ) → IsDecidedOf (is_forced_on k) → FailsNowhere (is_forced_on k) → Passes d levels (is_forced_on k)
  forced_on k decided nowhere l s is new goal = by (decided s new.0.0)
    where
      by : IsForced d (level_before levels k) s ⊎ (¬ IsForced d (level_before levels k) s) →
          Forced d (IsIn d (level_before levels k)) s
      by (inl forced) = forced_valid d regular levels (level_before levels k) s new.0.0 forced
      by (inr free) =
          absurd (nowhere s (
            l,
            is,
            new,
            goal,
            λ forced. free (is_forced d regular levels (level_before levels k) s forced),
          ))

  in_chain : (k i : ℕ) → FailsNowhere (is_in_chain k i) → Passes d levels (is_in_chain k i)
  in_chain k i nowhere l chain s is of new =
      holds (list_any (λ (set : StateData → Bool). set s) chain) (λ out. nowhere s (l, chain, is, of, new, out))

  forced_within : (k : ℕ) → IsDecidedOf (is_forced_within k) → FailsNowhere (is_forced_within k) →
      Passes d levels (is_forced_within k)
  forced_within k decided nowhere l s is new = by (decided s new.0.0 l is)
    where
      by : IsForced d l.set s ⊎ (¬ IsForced d l.set s) → Forced d (IsIn d l.set) s
      by (inl forced) = forced_valid d regular levels l.set s new.0.0 forced
      by (inr free) = absurd (nowhere s (l, is, new, λ forced. free (is_forced d regular levels l.set s forced)))

  waits : (k i : ℕ) → RestsOn d levels (waits_or_falls k i) → IsDecidedOf (waits_or_falls k i) →
      FailsNowhere (waits_or_falls k i) → Passes d levels (waits_or_falls k i)
  waits k i rests decided nowhere l chain s is of new =
      by (decided s new.0.0 l chain (place chain s) is of (at_place chain s (rests l chain s is of new)))
    where
      by : (IsFair d s i ⊎ IsForced d (lower_at levels k chain (place chain s)) s)
          ⊎ (¬ (IsFair d s i ⊎ IsForced d (lower_at levels k chain (place chain s)) s)) →
          IsFair d s i ⊎ Forced d (IsIn d (lower_at levels k chain (place chain s))) s
      by (inl (inl fair)) = inl fair
      by (inl (inr forced)) =
          inr (forced_valid d regular levels (lower_at levels k chain (place chain s)) s new.0.0 forced)
      by (inr neither) =
          absurd (nowhere s (
            l,
            chain,
            is,
            of,
            new,
            (λ fair. neither (inl fair)),
            λ forced. neither
                (inr (is_forced d regular levels (lower_at levels k chain (place chain s)) s forced)),
          ))

  pub passes : (part : LevelPart) → NamesStates part → RestsOn d levels part →
      ((s : StateData) → IsState d s → IsDecided d levels part s) → ((s : StateData) → ¬ FailsAt d levels part s) →
      Passes d levels part
  passes (holds_before k) names rests decided nowhere = before k nowhere
  passes (has_new k) names rests decided nowhere = absurd names
  passes (is_chain k i) names rests decided nowhere = absurd names
  passes (grows k i x) names rests decided nowhere = grown k i x nowhere
  passes (lies_in k i x) names rests decided nowhere = lies k i x nowhere
  passes begins_lost names rests decided nowhere = absurd names
  passes (is_forced_on k) names rests decided nowhere = forced_on k decided nowhere
  passes (is_in_chain k i) names rests decided nowhere = in_chain k i nowhere
  passes (is_forced_within k) names rests decided nowhere = forced_within k decided nowhere
  passes (waits_or_falls k i) names rests decided nowhere = waits k i rests decided nowhere

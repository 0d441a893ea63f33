-- Levels of which a part fails are no certificate of the environment.
use Rattle.std.proofs.Common.{◌⊎◌, inl, inr, ℕ, List, ◌∷◌, sym, ◌∙◌, subst, true≢false}
use Rattle.std.specs.List.{AllByRecursion}
use Rattle.tm_syntax.specs.Design.{DesignTree}
use Rattle.tm_sem.specs.State.{StateData}
use Rattle.tm_sem.specs.Certificates.{Level, MeetsEnvironment}
use Rattle.tm_verdict.specs.Environment.{IsRefused, IsReported, LevelPart, Passes, begins_lost, grows, has_new, holds_before, is_chain, is_forced_on, is_forced_within, is_in_chain, lies_in, waits_or_falls}
use Rattle.tm_verdict.proofs.Listed.{all_second}
use Rattle.tm_verdict.proofs.LevelParts.{parts_pass}

module _ (d : DesignTree) (levels : List Level) where
  neither : {A B : Type 0} → A ⊎ B → (¬ A) → (¬ B) → ⊥
  neither (inl a) no_a no_b = no_a a
  neither (inr b) no_a no_b = no_b b

  -- a part that fails does not pass
  pub fails_and_passes : (part : LevelPart) (s : StateData) → IsReported d levels part s → Passes d levels part → ⊥
  fails_and_passes (holds_before k) s r passes =
      true≢false (sym (passes r.here.0 r.here.1 s r.here.2).1 ∙ r.here.3)
  fails_and_passes (has_new k) s r passes = r.0 passes
  fails_and_passes (is_chain k i) s r passes = r.0 passes
  fails_and_passes (grows k i x) s r passes =
      true≢false (sym (passes r.here.0 r.here.1 r.here.2 r.here.3 r.here.4 r.here.5 s r.here.6).1 ∙ r.here.7)
  fails_and_passes (lies_in k i x) s r passes =
      true≢false (sym (passes r.here.0 r.here.1 r.here.2 r.here.3 r.here.4 r.here.5 s r.here.6).1 ∙ r.here.7)
  fails_and_passes begins_lost s r passes = r.0 passes
  fails_and_passes (is_forced_on k) s r passes = r.here.4 (passes r.here.0 s r.here.1 r.here.2 r.here.3)
  fails_and_passes (is_in_chain k i) s r passes =
      true≢false (sym (passes r.here.0 r.here.1 s r.here.2 r.here.3 r.here.4) ∙ r.here.5)
  fails_and_passes (is_forced_within k) s r passes = r.here.3 (passes r.here.0 s r.here.1 r.here.2)
  fails_and_passes (waits_or_falls k i) s r passes =
      neither (passes r.here.0 r.here.1 s r.here.2 r.here.3 r.here.4) r.here.5 r.here.6

  pub refused_is_none : (condition goal : ℕ) (s : StateData) → IsRefused d levels condition goal s →
      ¬ MeetsEnvironment d levels
  refused_is_none condition goal s r meets =
      let all = subst (AllByRecursion (Passes d levels)) r.parts (parts_pass d levels meets) in
      fails_and_passes r.part s r.reported (all_second (Passes d levels) r.before (r.part ∷ r.behind) all).0

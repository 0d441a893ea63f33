-- A certificate has one verdict: the first part that does not pass is one, and so is the state that is reported.
use Rattle.std.proofs.Common.{◌≡◌, ℕ, Result, Ok, Err, List, [], ◌∷◌, ◌++◌, sym, ap, ◌∙◌, refl, subst}
use Rattle.std.specs.Prelude.{IfOk}
use Rattle.std.specs.List.{AllByRecursion}
use Rattle.tm_check.specs.Verdict.{IsDriverVerdict}
use Rattle.tm_envcheck.specs.Verdict.{IsEnvironmentVerdict}
use Rattle.tm_flat.specs.Inputs.{AreSmall}
use Rattle.tm_sem.specs.declared.state.Move.{Move}
use Rattle.tm_sem.specs.Certificates.{DriverSets, Level}
use Rattle.tm_sem.specs.State.{StateData}
use Rattle.tm_sem.specs.Step.{IsInitial, IsState}
use Rattle.tm_syntax.specs.Design.{DesignTree}
use Rattle.tm_verdict.specs.declared.verdict.Verdict.{Verdict}
use Rattle.tm_verdict.specs.declared.verdict.Verdict.TheVariants.{Accepted, Refused}
use Rattle.tm_verdict.specs.Driver as driver
use Rattle.tm_verdict.specs.Driver.{DriverPart, adds_state, begins_within, driver_condition, driver_goal}
use Rattle.tm_verdict.specs.Driver.{driver_parts, falls_when_fair, is_answered, is_calm, is_ranked, lies_within}
use Rattle.tm_verdict.specs.Driver.{never_rises}
use Rattle.tm_verdict.specs.Environment as environment
use Rattle.tm_verdict.specs.Environment.{LevelPart, begins_lost, grows, has_new, holds_before, is_chain}
use Rattle.tm_verdict.specs.Environment.{is_forced_on, is_forced_within, is_in_chain, level_condition, level_goal}
use Rattle.tm_verdict.specs.Environment.{level_parts, lies_in, waits_or_falls}
use Rattle.tm_verdict.proofs.RefusedDrivers as drivers
use Rattle.tm_verdict.proofs.RefusedLevels as levels_of_none
use Rattle.tm_judge.proofs.OneState.{one_first}

-- the first part that does not pass is one
module _ {A : Type 0} (Passes : A → Type 0) where
  same_head : (x y : A) (xs ys : List A) → x ∷ xs ≡ y ∷ ys → x ≡ y
  same_head x y xs ys is = cc

  same_tail : (x y : A) (xs ys : List A) → x ∷ xs ≡ y ∷ ys → xs ≡ ys
  same_tail x y xs ys is = cc

  first_failure : (before others : List A) (part other : A) (behind rest : List A) →
      before ++ part ∷ behind ≡ others ++ other ∷ rest → AllByRecursion Passes before →
      AllByRecursion Passes others → (¬ Passes part) → (¬ Passes other) → part ≡ other
  first_failure [] [] part other behind rest same passed also fails wrong =
      same_head part other behind rest same
  first_failure [] (o ∷ os) part other behind rest same passed also fails wrong =
      absurd (fails (subst Passes (sym (same_head part o behind (os ++ other ∷ rest) same)) also.0))
  first_failure (b ∷ bs) [] part other behind rest same passed also fails wrong =
      absurd (wrong (subst Passes (same_head b other (bs ++ part ∷ behind) rest same) passed.0))
  first_failure (b ∷ bs) (o ∷ os) part other behind rest same passed also fails wrong =
      first_failure bs os part other behind rest
      (same_tail b o (bs ++ part ∷ behind) (os ++ other ∷ rest) same) passed.1 also.1 fails wrong

-- a refusal is told by its parts
refusals : (condition number goal other : ℕ) (s t : StateData) → condition ≡ number → goal ≡ other → s ≡ t →
    Refused condition goal s ≡ Refused number other t
refusals condition number goal other s t conditions goals states = λ i. Refused (conditions i) (goals i) (states i)

module _ (d : DesignTree) (small : AreSmall d) (valid : (s : StateData) → IsInitial d s → IsState d s) where
  module _ (answers : StateData → ℕ → Move → Type 0) (c : DriverSets) where
    -- a part is reported with one state
    one_driver_state : (part : DriverPart) (s t : StateData) → driver.IsReported d answers c part s →
        driver.IsReported d answers c part t → s ≡ t
    one_driver_state (lies_within goal k) s t one other =
        one_first d small (driver.FailsAt d answers c (lies_within goal k)) (λ u fails. fails.4.0) s t one other
    one_driver_state (adds_state goal k) s t one other = one_first d small (IsInitial d) valid s t one.3 other.3
    one_driver_state begins_within s t one other =
        one_first d small (driver.FailsAt d answers c begins_within) (λ u fails. valid u fails.0) s t one other
    one_driver_state (is_ranked goal) s t one other =
        one_first d small (driver.FailsAt d answers c (is_ranked goal)) (λ u fails. fails.1.0) s t one other
    one_driver_state is_calm s t one other =
        one_first d small (driver.FailsAt d answers c is_calm) (λ u fails. fails.1.0) s t one other
    one_driver_state (is_answered goal) s t one other =
        one_first d small (driver.FailsAt d answers c (is_answered goal)) (λ u fails. fails.1.0) s t one other
    one_driver_state (never_rises goal) s t one other =
        one_first d small (driver.FailsAt d answers c (never_rises goal)) (λ u fails. fails.4.0) s t one other
    one_driver_state (falls_when_fair goal) s t one other =
        one_first d small (driver.FailsAt d answers c (falls_when_fair goal)) (λ u fails. fails.4.0) s t one other

    one_refused_driver : (condition goal number other : ℕ) (s t : StateData) →
        driver.IsRefused d answers c condition goal s → driver.IsRefused d answers c number other t →
        Refused condition goal s ≡ Refused number other t
    one_refused_driver condition goal number other s t one also =
        let part = first_failure (driver.Passes d answers c) one.before also.before one.part also.part one.behind
        also.behind (sym one.parts ∙ also.parts) one.passed also.passed
        (drivers.fails_and_passes d answers c one.part s one.reported)
        (drivers.fails_and_passes d answers c also.part t also.reported) in
        refusals condition number goal other s t
        (one.number ∙ ap driver_condition part ∙ sym also.number)
        (one.of_goal ∙ ap driver_goal part ∙ sym also.of_goal)
        (one_driver_state also.part s t
        (subst (λ (p : DriverPart). driver.IsReported d answers c p s) part one.reported) also.reported)

    one_driver_verdict : (one other : Verdict) → IsDriverVerdict d answers c one →
        IsDriverVerdict d answers c other → one ≡ other
    one_driver_verdict Accepted Accepted one other = refl
    one_driver_verdict Accepted (Refused condition goal s) one other =
        absurd (drivers.refused_is_none d answers c condition goal s other one)
    one_driver_verdict (Refused condition goal s) Accepted one other =
        absurd (drivers.refused_is_none d answers c condition goal s one other)
    one_driver_verdict (Refused condition goal s) (Refused number of_goal t) one other =
        one_refused_driver condition goal number of_goal s t one other

    -- the verdict that is answered is the only one
    pub only_driver_verdict : {E : Type 0} (answer : Result Verdict E) → IfOk answer (IsDriverVerdict d answers c) →
        IfOk answer (λ verdict. (other : Verdict) → IsDriverVerdict d answers c other → verdict ≡ other)
    only_driver_verdict (Ok verdict) is = λ other also. one_driver_verdict verdict other is also
    only_driver_verdict (Err e) is = tt

  module _ (levels : List Level) where
    -- a part is reported with one state
    one_level_state : (part : LevelPart) (s t : StateData) → environment.IsReported d levels part s →
        environment.IsReported d levels part t → s ≡ t
    one_level_state (holds_before k) s t one other =
        one_first d small (environment.FailsAt d levels (holds_before k)) (λ u fails. fails.2.0) s t one other
    one_level_state (has_new k) s t one other = one_first d small (IsInitial d) valid s t one.1 other.1
    one_level_state (is_chain k i) s t one other = one_first d small (IsInitial d) valid s t one.1 other.1
    one_level_state (grows k i x) s t one other =
        one_first d small (environment.FailsAt d levels (grows k i x)) (λ u fails. fails.6.0) s t one other
    one_level_state (lies_in k i x) s t one other =
        one_first d small (environment.FailsAt d levels (lies_in k i x)) (λ u fails. fails.6.0) s t one other
    one_level_state begins_lost s t one other = one_first d small (IsInitial d) valid s t one.1 other.1
    one_level_state (is_forced_on k) s t one other =
        one_first d small (environment.FailsAt d levels (is_forced_on k)) (λ u fails. fails.2.0.0) s t one other
    one_level_state (is_in_chain k i) s t one other =
        one_first d small (environment.FailsAt d levels (is_in_chain k i)) (λ u fails. fails.4.0.0) s t one other
    one_level_state (is_forced_within k) s t one other =
        one_first d small (environment.FailsAt d levels (is_forced_within k)) (λ u fails. fails.2.0.0) s t one other
    one_level_state (waits_or_falls k i) s t one other =
        one_first d small (environment.FailsAt d levels (waits_or_falls k i)) (λ u fails. fails.4.0.0) s t one other

    one_refused_environment : (condition goal number other : ℕ) (s t : StateData) →
        environment.IsRefused d levels condition goal s → environment.IsRefused d levels number other t →
        Refused condition goal s ≡ Refused number other t
    one_refused_environment condition goal number other s t one also =
        let part = first_failure (environment.Passes d levels) one.before also.before one.part also.part one.behind
        also.behind (sym one.parts ∙ also.parts) one.passed also.passed
        (levels_of_none.fails_and_passes d levels one.part s one.reported)
        (levels_of_none.fails_and_passes d levels also.part t also.reported) in
        refusals condition number goal other s t
        (one.number ∙ ap level_condition part ∙ sym also.number)
        (one.of_goal ∙ ap (level_goal levels) part ∙ sym also.of_goal)
        (one_level_state also.part s t
        (subst (λ (p : LevelPart). environment.IsReported d levels p s) part one.reported) also.reported)

    one_environment_verdict : (one other : Verdict) → IsEnvironmentVerdict d levels one →
        IsEnvironmentVerdict d levels other → one ≡ other
    one_environment_verdict Accepted Accepted one other = refl
    one_environment_verdict Accepted (Refused condition goal s) one other =
        absurd (levels_of_none.refused_is_none d levels condition goal s other one)
    one_environment_verdict (Refused condition goal s) Accepted one other =
        absurd (levels_of_none.refused_is_none d levels condition goal s one other)
    one_environment_verdict (Refused condition goal s) (Refused number of_goal t) one other =
        one_refused_environment condition goal number of_goal s t one other

    -- the verdict that is answered is the only one
    pub only_environment_verdict : {E : Type 0} (answer : Result Verdict E) →
        IfOk answer (IsEnvironmentVerdict d levels) →
        IfOk answer (λ verdict. (other : Verdict) → IsEnvironmentVerdict d levels other → verdict ≡ other)
    only_environment_verdict (Ok verdict) is = λ other also. one_environment_verdict verdict other is also
    only_environment_verdict (Err e) is = tt

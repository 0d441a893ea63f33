-- A certificate that is given in another order is judged as it was.
use Rattle.std.proofs.Common.{◌≡◌, ℕ, ◌<◌, ◌^◌, List, Result, Ok, length, sym, subst, arith}
use Rattle.std.specs.Prelude.{IfOk, sum}
use Rattle.tm_cert.specs.Cert.{DriverData, EnvData}
use Rattle.tm_check.specs.Verdict.{IsDriverVerdict}
use Rattle.tm_cir.specs.Answer.{Answers}
use Rattle.tm_cir.specs.Tree.{BlockTree}
use Rattle.tm_envcheck.specs.Verdict.{IsEnvironmentVerdict}
use Rattle.tm_flat.proofs.Widths.{few_state_bits}
use Rattle.tm_game_bits.specs.Order.{IsOrder}
use Rattle.tm_game_bits.proofs.Orders.{length_order}
use Rattle.tm_judge.specs.Judged.{CanJudgeDriver, CanJudgeEnvironment}
use Rattle.tm_sem.specs.Certificates.{DriverSets, Level}
use Rattle.tm_sem.specs.Fairness.{conditions}
use Rattle.tm_sem.specs.StateBits.{state_widths}
use Rattle.tm_syntax.specs.Design.{DesignTree}
use Rattle.tm_syntax.specs.Faults.{IsSound}
use Rattle.tm_verdict.specs.declared.verdict.Verdict.{Verdict}
use Rattle.tm_verdict.specs.Fitting.{FitsDriver, FitsEnvironment}

-- an order of the bits of a state, lent
module _ (d : DesignTree) (order lent : List ℕ) (is : IsOrder (sum (state_widths d)) order) (same : lent ≡ order) where
  lent_order : IsOrder (sum (state_widths d)) lent
  lent_order = subst (IsOrder (sum (state_widths d))) (sym same) is

  as_long : length lent ≡ sum (state_widths d)
  as_long = length_order (sum (state_widths d)) lent lent_order

  -- it has few places
  pub few_places : IsSound d → length lent < 2 ^ 32
  few_places sound = omega (arith, as_long, few_state_bits d sound)

  -- and each of them once
  pub whole_order : IsOrder (length lent) lent
  whole_order = subst (λ (n : ℕ). IsOrder n lent) (sym as_long) lent_order

  -- a driver's certificate that fits the design fits the order
  pub driver_in_order : (bs : List BlockTree) (c : DriverData) → CanJudgeDriver d bs c →
      (goals : ℕ) × (fairs : ℕ) × FitsDriver (length lent) goals fairs c
  driver_in_order bs c can = (
    length d.goals,
    length (conditions d),
    subst (λ (n : ℕ). FitsDriver n (length d.goals) (length (conditions d)) c) (sym as_long) can.cert,
  )

  -- given in that order it still fits the design
  pub moved_driver : (bs : List BlockTree) (c moved : DriverData) → CanJudgeDriver d bs c →
      ((goals fairs : ℕ) → FitsDriver (length lent) goals fairs c → FitsDriver (length lent) goals fairs moved) →
      CanJudgeDriver d bs moved
  unfolding driver_in_order
  moved_driver bs c moved can fits = record {
    sound = can.sound;
    of_text = can.of_text;
    blocks = can.blocks;
    cert = subst (λ (n : ℕ). FitsDriver n (length d.goals) (length (conditions d)) moved) as_long
        (fits (length d.goals) (length (conditions d)) (driver_in_order bs c can).2);
  }

  -- so an environment's
  pub environment_in_order : (c : EnvData) → CanJudgeEnvironment d c →
      (goals : ℕ) × (fairs : ℕ) × FitsEnvironment (length lent) goals fairs c
  environment_in_order c can = (
    length d.goals,
    length (conditions d),
    subst (λ (n : ℕ). FitsEnvironment n (length d.goals) (length (conditions d)) c) (sym as_long) can.cert,
  )

  pub moved_environment : (c moved : EnvData) → CanJudgeEnvironment d c →
      ((goals fairs : ℕ) → FitsEnvironment (length lent) goals fairs c →
      FitsEnvironment (length lent) goals fairs moved) → CanJudgeEnvironment d moved
  unfolding environment_in_order
  moved_environment c moved can fits = record {
    sound = can.sound;
    of_text = can.of_text;
    cert = subst (λ (n : ℕ). FitsEnvironment n (length d.goals) (length (conditions d)) moved) as_long
        (fits (length d.goals) (length (conditions d)) (environment_in_order c can).2);
  }

-- a verdict on equal sets is one
pub same_driver_verdict : {E : Type 0} (d : DesignTree) (bs : List BlockTree) (x y : DriverSets) → x ≡ y →
    (r : Result Verdict E) → IfOk r (IsDriverVerdict d (Answers bs) x) → IfOk r (IsDriverVerdict d (Answers bs) y)
same_driver_verdict d bs x y same r verdict =
    subst (λ (c : DriverSets). IfOk r (IsDriverVerdict d (Answers bs) c)) same verdict

pub same_only_driver : {E : Type 0} (d : DesignTree) (bs : List BlockTree) (x y : DriverSets) → x ≡ y →
    (r : Result Verdict E) →
    IfOk r (λ v. (other : Verdict) → IsDriverVerdict d (Answers bs) x other → v ≡ other) →
    IfOk r (λ v. (other : Verdict) → IsDriverVerdict d (Answers bs) y other → v ≡ other)
same_only_driver d bs x y same r only =
    subst (λ (c : DriverSets).
    IfOk r (λ (v : Verdict). (other : Verdict) → IsDriverVerdict d (Answers bs) c other → v ≡ other)) same only

pub same_level_verdict : {E : Type 0} (d : DesignTree) (x y : List Level) → x ≡ y → (r : Result Verdict E) →
    IfOk r (IsEnvironmentVerdict d x) → IfOk r (IsEnvironmentVerdict d y)
same_level_verdict d x y same r verdict = subst (λ (c : List Level). IfOk r (IsEnvironmentVerdict d c)) same verdict

pub same_only_levels : {E : Type 0} (d : DesignTree) (x y : List Level) → x ≡ y → (r : Result Verdict E) →
    IfOk r (λ v. (other : Verdict) → IsEnvironmentVerdict d x other → v ≡ other) →
    IfOk r (λ v. (other : Verdict) → IsEnvironmentVerdict d y other → v ≡ other)
same_only_levels d x y same r only =
    subst (λ (c : List Level).
    IfOk r (λ (v : Verdict). (other : Verdict) → IsEnvironmentVerdict d c other → v ≡ other)) same only

-- A verdict that was reached, and the lines that were put of it.
use Rattle.std.proofs.Common.{◌≡◌, inr, ℕ, ◌<◌, ◌^◌, Result, Ok, Err, List, length, map, refl, sym, ap, ◌∙◌}
use Rattle.std.proofs.Common.{subst, arith}
use Rattle.std.proofs.lemmas.List.{length-map}
use Rattle.tm_cert.specs.Cert.{DriverData, EnvData}
use Rattle.tm_cir.specs.Tree.{BlockTree}
use Rattle.tm_judge.specs.Judged.{CanJudgeDriver}
use Rattle.tm_sem.specs.Certificates.{longest_chain}
use Rattle.tm_sem.specs.Fairness.{conditions}
use Rattle.tm_verdict.specs.Sets.{levels_of}
use Rattle.tm_syntax.specs.Design.{DesignTree}
use Rattle.tm_syntax.proofs.Limits as limits
use Rattle.tm_verdict.specs.declared.verdict.Verdict.{Verdict}
use Rattle.tm_report.specs.declared.ending.Ending.{Ending}
use Rattle.tm_report.specs.declared.ending.Failure.{Failure}
use Rattle.tm_commands.specs.Check.{driver_end, driver_text, environment_end, environment_text}
use Rattle.tm_report.specs.Output.{SinkData}
use Rattle.tm_commands.specs.Inner.Judging.{HasCutDriver, HasCutEnvironment, HasJudgedDriver, HasJudgedEnvironment}
use Rattle.tm_commands.specs.Inner.Judging.{IsVerdictOn, IsVerdictOnLevels}
use Rattle.tm_report.specs.Putting.{HasPut}

-- there are few goals
pub few_ranks : (d : DesignTree) (bs : List BlockTree) (c : DriverData) → CanJudgeDriver d bs c → (ranks : List ℕ) →
    ranks ≡ map length c.goals → length ranks < 2 ^ 32
few_ranks d bs c can ranks is =
    omega (
      arith,
      limits.few_goals d can.sound,
      can.cert.count,
      ap length is,
      length-map c.goals (λ ranks. length ranks),
    )

-- ranks that are lent are the same
pub same_ranks : (ending : Ending) (ranks lent : List ℕ) (v : Verdict) → lent ≡ ranks →
    ending ≡ driver_end ranks v → ending ≡ driver_end lent v
same_ranks ending ranks lent v same ends = ends ∙ ap (λ (xs : List ℕ). driver_end xs v) (sym same)

module _ {T : Type 0} (out after : SinkData) (r : Result T Failure) (v : Verdict) where
  module _ (d : DesignTree) (bs : List BlockTree) (c : DriverData) (verdict : IsVerdictOn d bs c v) (ranks : List ℕ)
      (are : ranks ≡ map length c.goals) (put : HasPut (driver_text d ranks v) out after r) where
    lines_put : HasPut (driver_text d (map length c.goals) v) out after r
    lines_put = subst (λ (xs : List ℕ). HasPut (driver_text d xs v) out after r) are put

    -- the lines of the verdict on a driver were put
    pub driver_judged : (x : T) → r ≡ Ok x → (ending : Ending) → ending ≡ driver_end ranks v →
        HasJudgedDriver d bs c out after ending
    driver_judged x is ending ends = (
      v,
      verdict,
      ends ∙ ap (λ (xs : List ℕ). driver_end xs v) are,
      (subst (HasPut (driver_text d (map length c.goals) v) out after) is lines_put).whole,
    )

    -- or not all of them
    pub driver_cut : (failure : Failure) → r ≡ Err failure → HasCutDriver d bs c out after
    driver_cut failure is = (
      driver_text d (map length c.goals) v,
      inr (v, verdict, refl),
      (subst (HasPut (driver_text d (map length c.goals) v) out after) is lines_put).cut,
    )

  module _ (d : DesignTree) (c : EnvData) (verdict : IsVerdictOnLevels d c v) (levels many chain : ℕ)
      (levels_are : levels ≡ length c.levels) (many_are : many ≡ length (conditions d))
      (longest_is : chain ≡ longest_chain (levels_of d c))
      (put : HasPut (environment_text d levels many chain v) out after r) where
    numbers_put : HasPut
        (environment_text d (length c.levels) (length (conditions d)) (longest_chain (levels_of d c)) v) out after r
    numbers_put =
        subst (λ (l : ℕ). HasPut (environment_text d (length c.levels) (length (conditions d)) l v) out after r)
        longest_is
        (subst (λ (m : ℕ). HasPut (environment_text d (length c.levels) m chain v) out after r) many_are
        (subst (λ (k : ℕ). HasPut (environment_text d k many chain v) out after r) levels_are put))

    -- the lines of the verdict on the environment were put
    pub environment_judged : (x : T) → r ≡ Ok x → (ending : Ending) → ending ≡ environment_end levels many chain v →
        HasJudgedEnvironment d c out after ending
    environment_judged x is ending ends = (
      v,
      verdict,
      ends ∙ (λ i. environment_end (levels_are i) (many_are i) (longest_is i) v),
      (subst (HasPut (environment_text d (length c.levels) (length (conditions d)) (longest_chain (levels_of d c)) v)
          out after) is numbers_put).whole,
    )

    -- or not all of them
    pub environment_cut : (failure : Failure) → r ≡ Err failure → HasCutEnvironment d c out after
    environment_cut failure is = (
      environment_text d (length c.levels) (length (conditions d)) (longest_chain (levels_of d c)) v,
      inr (v, verdict, refl),
      (subst (HasPut (environment_text d (length c.levels) (length (conditions d)) (longest_chain (levels_of d c)) v)
          out after) is numbers_put).cut,
    )

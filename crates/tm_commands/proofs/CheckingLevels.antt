-- The end of `check` without a driver is one, and how it is obeyed.
use Rattle.std.proofs.Common.{◌≡◌, ◌⊎◌, inl, inr, ℕ, ◌≤◌, Option, Some, Result, Ok, Err, List, [], ◌∷◌, length, refl}
use Rattle.std.proofs.Common.{sym, ap, ◌∙◌, subst}
use Rattle.std.specs.Prelude.{IsTrue, IfOk, IfErr, OnErr}
use Rattle.tm_cert.specs.declared.cert.Cert.TheVariants as certs
use Rattle.tm_cert.specs.declared.shape.Kind.TheVariants.{Environment}
use Rattle.tm_cert.specs.Cert.{EnvData}
use Rattle.tm_envcheck.specs.Verdict.{IsEnvironmentVerdict}
use Rattle.tm_sem.specs.Certificates.{longest_chain}
use Rattle.tm_sem.specs.Fairness.{conditions}
use Rattle.tm_verdict.specs.Sets.{levels_of}
use Rattle.tm_syntax.specs.Design.{DesignTree}
use Rattle.tm_verdict.specs.declared.verdict.Verdict.{Verdict}
use Rattle.tm_verdict.specs.declared.verdict.Verdict.TheVariants as verdicts
use Rattle.tm_report.specs.declared.ending.Ending.{Ending}
use Rattle.tm_report.specs.declared.ending.Failure.{Failure}
use Rattle.tm_commands.specs.declared.stop.Stop.{Stop}
use Rattle.tm_commands.specs.Check.{TellsEnvironment, NoEnvironment, no_spec, no_levels, environment_end}
use Rattle.tm_commands.specs.Check.{environment_text, CheckEnvironmentEnds, unread_environment, judged_environment}
use Rattle.tm_commands.specs.Check.{CheckEnvironmentMayEnd, may_judge_environment}
use Rattle.tm_commands.specs.Headline.{IsLongShown}
use Rattle.tm_commands.specs.Order.{IsDueOfTwo}
use Rattle.tm_commands.specs.Words.{check_environment}
use Rattle.tm_commands.specs.World.{FilesData, OnlyReads}
use Rattle.tm_report.specs.Output.{SinkData}
use Rattle.tm_commands.specs.Inner.Judging.{HasCutEnvironment, HasJudgedEnvironment, IsEnvironmentRead}
use Rattle.tm_commands.specs.Inner.Judging.{IsVerdictOnLevels}
use Rattle.tm_commands.specs.Inner.Obeying.{Obeys}
use Rattle.tm_commands.specs.Inner.Stopping.{StopsBy, stop_outcome, IsLoadFailure, IsRefusal}
use Rattle.tm_report.specs.Putting.{IsSinkFailure}
use Rattle.tm_commands.proofs.Certifying.{cert_of, cert_read, no_cert_of, one_no_cert, told_cert}
use Rattle.tm_commands.proofs.Running.{cut_obeys, put_obeys, stopped_obeys}
use Rattle.tm_commands.proofs.Telling.{one_no_specification, specification_read, told_specification}

-- an environment's certificate is one
same_levels : (c e : EnvData) → certs.Environment c ≡ certs.Environment e → c ≡ e
same_levels c e is = cc

-- the end of a verdict on a certificate, and its lines
abbrev pub end_on : DesignTree → EnvData → Verdict → Ending
end_on d c v = environment_end (length c.levels) (length (conditions d)) (longest_chain (levels_of d c)) v

abbrev pub text_on : DesignTree → EnvData → Verdict → List ℕ
text_on d c v = environment_text d (length c.levels) (length (conditions d)) (longest_chain (levels_of d c)) v

module _ (contents : List ℕ → Option (List ℕ)) (spec cert : List ℕ) where
  -- files that tell a certificate are not refused
  levels_read : (d : DesignTree) (c : EnvData) (ending : Ending) → TellsEnvironment contents spec cert d c →
      NoEnvironment contents spec cert ending → ⊥
  levels_read d c ending tells (no_spec none) = specification_read contents spec d ending tells.design none
  levels_read d c ending tells (no_levels {d = e} design none) =
      cert_read contents cert d Environment (certs.Environment c) ending tells.certificate
      (no_cert_of contents spec cert Environment d e tells.design design ending none)

  -- files are refused for one cause
  one_no_environment : (one other : Ending) → NoEnvironment contents spec cert one →
      NoEnvironment contents spec cert other → one ≡ other
  one_no_environment one other (no_spec p) (no_spec q) = one_no_specification contents spec one other p q
  one_no_environment one other (no_spec p) (no_levels {d = d} design q) =
      absurd (specification_read contents spec d one design p)
  one_no_environment one other (no_levels {d = d} design p) (no_spec q) =
      absurd (specification_read contents spec d other design q)
  one_no_environment one other (no_levels {d = d} design p) (no_levels {d = e} others q) =
      one_no_cert contents cert d Environment one other p
      (no_cert_of contents spec cert Environment d e design others other q)

  -- a file that is refused leaves no other end
  only_unread : (one : Ending) → NoEnvironment contents spec cert one → (text : List ℕ) (other : Ending) →
      CheckEnvironmentEnds contents spec cert text other → one ≡ other
  only_unread one p text other (unread_environment q) = one_no_environment one other p q
  only_unread one p _ _ (judged_environment {d = d} {c = c} v tells is) = absurd (levels_read d c one tells p)

  module _ (d : DesignTree) (c : EnvData) (tells : TellsEnvironment contents spec cert d c) where
    same_cert : (e : DesignTree) (b : EnvData) → TellsEnvironment contents spec cert e b → b ≡ c
    same_cert e b also =
        same_levels b c
        (told_cert contents cert d Environment (certs.Environment b) (certs.Environment c)
        (cert_of contents spec cert Environment d e tells.design also.design (certs.Environment b) also.certificate)
        tells.certificate)

    -- a verdict leaves no other end, where there is no other verdict
    only_judged : (v : Verdict) → ((w : Verdict) → IsEnvironmentVerdict d (levels_of d c) w → v ≡ w) →
        (text : List ℕ) (other : Ending) → CheckEnvironmentEnds contents spec cert text other → end_on d c v ≡ other
    only_judged v only text other (unread_environment q) = absurd (levels_read d c other tells q)
    only_judged v only _ _ (judged_environment {d = e} {c = b} w also is) =
        let designs = told_specification contents spec e d also.design tells.design in
        let certificates = same_cert e b also in
        let here : IsEnvironmentVerdict d (levels_of d c) w =
        subst (λ (x : DesignTree). IsEnvironmentVerdict x (levels_of x c) w) designs
        (subst (λ (x : EnvData). IsEnvironmentVerdict e (levels_of e x) w) certificates is) in
        ap (end_on d c) (only w here) ∙ ap (λ (x : EnvData). end_on d x w) (sym certificates)
        ∙ ap (λ (x : DesignTree). end_on x b w) (sym designs)

-- no verdict tells of a text that is too long
levels_long : (old new : FilesData) (levels conditions chain : ℕ) (v : Verdict) →
    IsLongShown old new (environment_end levels conditions chain v)
levels_long old new levels conditions chain verdicts.Accepted =
    record { specification = λ is. cc; file = λ name is. cc }
levels_long old new levels conditions chain (verdicts.Refused condition goal s) =
    record { specification = λ is. cc; file = λ name is. cc }

module _ (spec cert : List ℕ) (old new : FilesData) where
  -- `check` was stopped at one of its files
  pub stopped_checking_levels : (out : SinkData) (stop : Stop) (outcome : Result Ending Failure) →
      outcome ≡ stop_outcome stop → OnlyReads old new →
      StopsBy (IsRefusal (NoEnvironment old.contents spec cert) (CheckEnvironmentMayEnd cert) old new)
      (IsLoadFailure (spec ∷ cert ∷ []) (IsDueOfTwo old.contents spec cert) old new) stop →
      Obeys (Some (check_environment spec cert)) old new out out outcome
  stopped_checking_levels =
      stopped_obeys (Some (check_environment spec cert)) (NoEnvironment old.contents spec cert)
      (CheckEnvironmentMayEnd cert) old new (λ tells. tells) (λ is. cc) (λ ending cause. unread_environment cause)
      (only_unread old.contents spec cert) (λ ending named. named) (λ ending named same. same)

  module _ (out after : SinkData) (d : DesignTree) (c : EnvData) (fairs : ℕ) (left : OnlyReads old new)
      (read : IsEnvironmentRead old.tells old.contents spec cert d c fairs) (faults : out.faults ≤ after.faults) where
    -- what was put so far
    so_put : (text : List ℕ) → (text ≡ []) ⊎ ((v : Verdict) × IsVerdictOnLevels d c v × (text ≡ text_on d c v)) →
        IsTrue old.tells →
        (text ≡ []) ⊎ ((ending : Ending) × CheckEnvironmentEnds old.contents spec cert text ending)
    so_put text (inl none) told = inl none
    so_put text (inr some) told = inr (
      end_on d c some.0,
      subst (λ (t : List ℕ). CheckEnvironmentEnds old.contents spec cert t (end_on d c some.0)) (sym some.2)
          (judged_environment some.0 (read.told told) some.1.is),
    )

    -- the verdict was put, or not all of it
    pub checked_levels_obeys : (outcome : Result Ending Failure) → IfOk outcome (HasJudgedEnvironment d c out after) →
        OnErr outcome (HasCutEnvironment d c out after) → IfErr outcome (IsSinkFailure out after) →
        Obeys (Some (check_environment spec cert)) old new out after outcome
    checked_levels_obeys (Ok ending) judged cut failed =
        subst (λ (e : Ending). Obeys (Some (check_environment spec cert)) old new out after (Ok e)) (sym judged.2)
        (put_obeys (Some (check_environment spec cert)) old new out after (λ tells. tells) (λ is. cc) refl
        (λ ending same. same) left faults (end_on d c judged.0) (text_on d c judged.0)
        (λ told. judged_environment judged.0 (read.told told) judged.1.is)
        (λ told. only_judged old.contents spec cert d c (read.told told) judged.0 judged.1.only)
        (may_judge_environment (length c.levels) (length (conditions d)) (longest_chain (levels_of d c)) judged.0)
        (levels_long old new (length c.levels) (length (conditions d)) (longest_chain (levels_of d c)) judged.0)
        judged.3)
    checked_levels_obeys (Err failure) judged cut failed =
        cut_obeys (Some (check_environment spec cert)) old new out after (λ tells. tells) (λ is. cc) refl
        (λ ending same. same) left faults failure cut.0 (so_put cut.0 cut.1) cut.2 failed

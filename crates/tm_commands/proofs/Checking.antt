-- The end of `check` with a driver is one, and how it is obeyed.
use Rattle.std.proofs.Common.{◌≡◌, ◌⊎◌, inl, inr, ℕ, ◌≤◌, Option, Some, Result, Ok, Err, List, [], ◌∷◌, length, map}
use Rattle.std.proofs.Common.{refl, sym, ap, ◌∙◌, subst}
use Rattle.std.specs.Prelude.{IsTrue, IfOk, IfErr, OnErr}
use Rattle.tm_cert.specs.declared.cert.Cert.TheVariants as certs
use Rattle.tm_cert.specs.declared.shape.Kind.TheVariants.{Driver}
use Rattle.tm_cert.specs.Cert.{DriverData}
use Rattle.tm_check.specs.Verdict.{IsDriverVerdict}
use Rattle.tm_cir.specs.Answer.{Answers}
use Rattle.tm_cir.specs.Tree.{BlockTree}
use Rattle.tm_verdict.specs.Sets.{driver_sets}
use Rattle.tm_syntax.specs.Design.{DesignTree}
use Rattle.tm_verdict.specs.declared.verdict.Verdict.{Verdict}
use Rattle.tm_verdict.specs.declared.verdict.Verdict.TheVariants as verdicts
use Rattle.tm_report.specs.declared.ending.Ending.{Ending}
use Rattle.tm_report.specs.declared.ending.Failure.{Failure}
use Rattle.tm_commands.specs.declared.stop.Stop.{Stop}
use Rattle.tm_commands.specs.Check.{TellsDriver, NoDriver, no_design, no_blocks, no_cert, driver_end, driver_text}
use Rattle.tm_commands.specs.Check.{CheckDriverEnds, unread_driver, judged_driver, CheckDriverMayEnd}
use Rattle.tm_commands.specs.Check.{may_judge_driver}
use Rattle.tm_commands.specs.Headline.{IsLongShown}
use Rattle.tm_commands.specs.Order.{IsDueOfThree}
use Rattle.tm_commands.specs.Words.{check_driver}
use Rattle.tm_commands.specs.World.{FilesData, OnlyReads}
use Rattle.tm_report.specs.Output.{SinkData}
use Rattle.tm_commands.specs.Inner.Judging.{HasCutDriver, HasJudgedDriver, IsDriverRead, IsVerdictOn}
use Rattle.tm_commands.specs.Inner.Obeying.{Obeys}
use Rattle.tm_commands.specs.Inner.Stopping.{StopsBy, stop_outcome, IsLoadFailure, IsRefusal}
use Rattle.tm_report.specs.Putting.{IsSinkFailure}
use Rattle.tm_commands.proofs.Certifying.{cert_of, cert_read, no_cert_of, one_no_cert, told_cert}
use Rattle.tm_commands.proofs.Completing.{blocks_of, blocks_read, no_blocks_of, one_no_blocks, told_blocks}
use Rattle.tm_commands.proofs.Running.{cut_obeys, put_obeys, stopped_obeys}
use Rattle.tm_commands.proofs.Telling.{one_no_specification, specification_read, told_specification}

-- a driver's certificate is one
same_driver : (c e : DriverData) → certs.Driver c ≡ certs.Driver e → c ≡ e
same_driver c e is = cc

module _ (contents : List ℕ → Option (List ℕ)) (spec driver cert : List ℕ) where
  -- files that tell a driver are not refused
  driver_read : (d : DesignTree) (bs : List BlockTree) (c : DriverData) (ending : Ending) →
      TellsDriver contents spec driver cert d bs c → NoDriver contents spec driver cert ending → ⊥
  driver_read d bs c ending tells (no_design none) = specification_read contents spec d ending tells.design none
  driver_read d bs c ending tells (no_blocks {d = e} design none) =
      blocks_read contents driver spec d bs ending tells.design tells.blocks
      (no_blocks_of contents spec driver cert d e ending tells.design design none)
  driver_read d bs c ending tells (no_cert {d = e} design blocks none) =
      cert_read contents cert d Driver (certs.Driver c) ending tells.certificate
      (no_cert_of contents spec cert Driver d e tells.design design ending none)

  -- files are refused for one cause
  one_no_driver : (one other : Ending) → NoDriver contents spec driver cert one →
      NoDriver contents spec driver cert other → one ≡ other
  one_no_driver one other (no_design p) (no_design q) = one_no_specification contents spec one other p q
  one_no_driver one other (no_design p) (no_blocks {d = d} design q) =
      absurd (specification_read contents spec d one design p)
  one_no_driver one other (no_design p) (no_cert {d = d} design blocks q) =
      absurd (specification_read contents spec d one design p)
  one_no_driver one other (no_blocks {d = d} design p) (no_design q) =
      absurd (specification_read contents spec d other design q)
  one_no_driver one other (no_blocks {d = d} design p) (no_blocks {d = e} others q) =
      one_no_blocks contents driver d one other p (no_blocks_of contents spec driver cert d e other design others q)
  one_no_driver one other (no_blocks {d = d} design p) (no_cert {d = e} {bs = bs} others blocks q) =
      absurd (blocks_read contents driver spec d bs one design
      (blocks_of contents spec driver cert d e bs design others blocks) p)
  one_no_driver one other (no_cert {d = d} design blocks p) (no_design q) =
      absurd (specification_read contents spec d other design q)
  one_no_driver one other (no_cert {d = d} {bs = bs} design blocks p) (no_blocks {d = e} others q) =
      absurd (blocks_read contents driver spec d bs other design blocks
      (no_blocks_of contents spec driver cert d e other design others q))
  one_no_driver one other (no_cert {d = d} design blocks p) (no_cert {d = e} others more q) =
      one_no_cert contents cert d Driver one other p
      (no_cert_of contents spec cert Driver d e design others other q)

  -- a file that is refused leaves no other end
  only_unread : (one : Ending) → NoDriver contents spec driver cert one → (text : List ℕ) (other : Ending) →
      CheckDriverEnds contents spec driver cert text other → one ≡ other
  only_unread one p text other (unread_driver q) = one_no_driver one other p q
  only_unread one p _ _ (judged_driver {d = d} {bs = bs} {c = c} v tells is) =
      absurd (driver_read d bs c one tells p)

  module _ (d : DesignTree) (bs : List BlockTree) (c : DriverData)
      (tells : TellsDriver contents spec driver cert d bs c) where
    -- all that the files tell is this
    same_verdict : (e : DesignTree) (cs : List BlockTree) (b : DriverData) → e ≡ d → cs ≡ bs → b ≡ c →
        (w : Verdict) → IsDriverVerdict e (Answers cs) (driver_sets e b) w →
        IsDriverVerdict d (Answers bs) (driver_sets d c) w
    same_verdict e cs b designs blocks certificates w is =
        subst (λ (x : DesignTree). IsDriverVerdict x (Answers bs) (driver_sets x c) w) designs
        (subst (λ (x : List BlockTree). IsDriverVerdict e (Answers x) (driver_sets e c) w) blocks
        (subst (λ (x : DriverData). IsDriverVerdict e (Answers cs) (driver_sets e x) w) certificates is))

    same_cert : (e : DesignTree) (cs : List BlockTree) (b : DriverData) →
        TellsDriver contents spec driver cert e cs b → b ≡ c
    same_cert e cs b also =
        same_driver b c
        (told_cert contents cert d Driver (certs.Driver b) (certs.Driver c)
        (cert_of contents spec cert Driver d e tells.design also.design (certs.Driver b) also.certificate)
        tells.certificate)

    same_blocks : (e : DesignTree) (cs : List BlockTree) (b : DriverData) →
        TellsDriver contents spec driver cert e cs b → cs ≡ bs
    same_blocks e cs b also =
        told_blocks contents driver d cs bs
        (blocks_of contents spec driver cert d e cs tells.design also.design also.blocks) tells.blocks

    -- a verdict leaves no other end, where there is no other verdict
    only_judged : (v : Verdict) → ((w : Verdict) → IsDriverVerdict d (Answers bs) (driver_sets d c) w → v ≡ w) →
        (text : List ℕ) (other : Ending) → CheckDriverEnds contents spec driver cert text other →
        driver_end (map length c.goals) v ≡ other
    only_judged v only text other (unread_driver q) = absurd (driver_read d bs c other tells q)
    only_judged v only _ _ (judged_driver {d = e} {bs = cs} {c = b} w also is) =
        let certificates = same_cert e cs b also in
        let verdict = only w
        (same_verdict e cs b (told_specification contents spec e d also.design tells.design)
        (same_blocks e cs b also) certificates w is) in
        ap (driver_end (map length c.goals)) verdict
        ∙ ap (λ (x : DriverData). driver_end (map length x.goals) w) (sym certificates)

-- no verdict tells of a text that is too long
driver_long : (old new : FilesData) (ranks : List ℕ) (v : Verdict) → IsLongShown old new (driver_end ranks v)
driver_long old new ranks verdicts.Accepted = record { specification = λ is. cc; file = λ name is. cc }
driver_long old new ranks (verdicts.Refused condition goal s) =
    record { specification = λ is. cc; file = λ name is. cc }

module _ (spec driver cert : List ℕ) (old new : FilesData) where
  -- `check` was stopped at one of its files
  pub stopped_checking : (out : SinkData) (stop : Stop) (outcome : Result Ending Failure) →
      outcome ≡ stop_outcome stop → OnlyReads old new →
      StopsBy (IsRefusal (NoDriver old.contents spec driver cert) (CheckDriverMayEnd driver cert) old new)
      (IsLoadFailure (spec ∷ driver ∷ cert ∷ []) (IsDueOfThree old.contents spec driver cert) old new) stop →
      Obeys (Some (check_driver spec driver cert)) old new out out outcome
  stopped_checking =
      stopped_obeys (Some (check_driver spec driver cert)) (NoDriver old.contents spec driver cert)
      (CheckDriverMayEnd driver cert) old new (λ tells. tells) (λ is. cc)
      (λ ending cause. unread_driver cause) (only_unread old.contents spec driver cert)
      (λ ending named. named) (λ ending named same. same)

  module _ (out after : SinkData) (d : DesignTree) (bs : List BlockTree) (c : DriverData) (left : OnlyReads old new)
      (read : IsDriverRead old.tells old.contents spec driver cert d bs c) (faults : out.faults ≤ after.faults) where
    -- what was put so far
    so_put : (text : List ℕ) → (text ≡ []) ⊎ ((v : Verdict) × IsVerdictOn d bs c v
        × (text ≡ driver_text d (map length c.goals) v)) → IsTrue old.tells →
        (text ≡ []) ⊎ ((ending : Ending) × CheckDriverEnds old.contents spec driver cert text ending)
    so_put text (inl none) told = inl none
    so_put text (inr some) told = inr (
      driver_end (map length c.goals) some.0,
      subst (λ (t : List ℕ).
          CheckDriverEnds old.contents spec driver cert t (driver_end (map length c.goals) some.0)) (sym some.2)
          (judged_driver some.0 (read.told told) some.1.is),
    )

    -- the verdict was put, or not all of it
    pub checked_obeys : (outcome : Result Ending Failure) → IfOk outcome (HasJudgedDriver d bs c out after) →
        OnErr outcome (HasCutDriver d bs c out after) → IfErr outcome (IsSinkFailure out after) →
        Obeys (Some (check_driver spec driver cert)) old new out after outcome
    checked_obeys (Ok ending) judged cut failed =
        subst (λ (e : Ending). Obeys (Some (check_driver spec driver cert)) old new out after (Ok e)) (sym judged.2)
        (put_obeys (Some (check_driver spec driver cert)) old new out after (λ tells. tells) (λ is. cc) refl
        (λ ending same. same) left faults (driver_end (map length c.goals) judged.0)
        (driver_text d (map length c.goals) judged.0) (λ told. judged_driver judged.0 (read.told told) judged.1.is)
        (λ told. only_judged old.contents spec driver cert d bs c (read.told told) judged.0 judged.1.only)
        (may_judge_driver (map length c.goals) judged.0) (driver_long old new (map length c.goals) judged.0) judged.3)
    checked_obeys (Err failure) judged cut failed =
        cut_obeys (Some (check_driver spec driver cert)) old new out after (λ tells. tells) (λ is. cc) refl
        (λ ending same. same) left faults failure cut.0 (so_put cut.0 cut.1) cut.2 failed

-- The command `check`: how it ends, and what it puts on the way.
use Rattle.std.specs.Prelude.{ℕ, Option, List, [], codes, length, map}
use Rattle.tm_cert.specs.declared.cert.Cert.TheVariants as certs
use Rattle.tm_cert.specs.declared.shape.Kind.TheVariants.{Driver, Environment}
use Rattle.tm_cert.specs.Cert.{DriverData, EnvData}
use Rattle.tm_check.specs.Verdict.{IsDriverVerdict}
use Rattle.tm_cir.specs.Answer.{Answers}
use Rattle.tm_cir.specs.Tree.{BlockTree}
use Rattle.tm_envcheck.specs.Verdict.{IsEnvironmentVerdict}
use Rattle.tm_sem.specs.Certificates.{longest_chain}
use Rattle.tm_sem.specs.Fairness.{conditions}
use Rattle.tm_verdict.specs.Sets.{driver_sets, levels_of}
use Rattle.tm_syntax.specs.Design.{DesignTree}
use Rattle.tm_verdict.specs.declared.verdict.Verdict.{Verdict}
use Rattle.tm_verdict.specs.declared.verdict.Verdict.TheVariants as verdicts
use Rattle.tm_report.specs.declared.ending.Ending.{Ending}
use Rattle.tm_report.specs.declared.ending.Ending.TheVariants.{Accepted, AcceptedEnvironment, Refused}
use Rattle.tm_commands.specs.Inputs.{TellsSpecification, TellsBlocks, TellsCert, NoSpecification, NoBlocks, NoCert}
use Rattle.tm_commands.specs.Inputs.{RefusesSpecification, RefusesBlocks, RefusesCert}
use Rattle.tm_report.specs.Report.{accepted_text, levels_text, refused_text}

-- ---- `check SPEC DRIVER CERT`
-- the files tell a design, blocks, and a driver's certificate
pub record TellsDriver (contents : List ℕ → Option (List ℕ)) (spec driver cert : List ℕ) (d : DesignTree)
    (bs : List BlockTree) (c : DriverData) : Type 0 where
  pub design : TellsSpecification contents spec d
  pub blocks : TellsBlocks contents driver d bs
  pub certificate : TellsCert contents cert d Driver (certs.Driver c)

-- the first of the files that is refused, and why
pub data NoDriver (contents : List ℕ → Option (List ℕ)) (spec driver cert : List ℕ) : Ending → Type 0 where
  no_design : {ending : Ending} → NoSpecification contents spec ending → NoDriver contents spec driver cert ending
  no_blocks : {d : DesignTree} {ending : Ending} → TellsSpecification contents spec d →
      NoBlocks contents driver d ending → NoDriver contents spec driver cert ending
  no_cert : {d : DesignTree} {bs : List BlockTree} {ending : Ending} → TellsSpecification contents spec d →
      TellsBlocks contents driver d bs → NoCert contents cert d Driver ending →
      NoDriver contents spec driver cert ending

-- the end that a verdict is, given how many ranked regions each goal has
abbrev pub driver_end : List ℕ → Verdict → Ending
driver_end ranks verdicts.Accepted = Accepted ranks
driver_end ranks (verdicts.Refused condition goal s) = Refused condition goal s

-- the lines that tell it
abbrev pub driver_text : DesignTree → List ℕ → Verdict → List ℕ
driver_text d ranks verdicts.Accepted = accepted_text d ranks
driver_text d ranks (verdicts.Refused condition goal s) = refused_text d (codes "C") condition goal s

-- how it ends, with its lines: a file is refused, or the blocks have the certificate, or its first condition fails that
-- does
pub data CheckDriverEnds (contents : List ℕ → Option (List ℕ)) (spec driver cert : List ℕ) :
    List ℕ → Ending → Type 0 where
  unread_driver : {ending : Ending} → NoDriver contents spec driver cert ending →
      CheckDriverEnds contents spec driver cert [] ending
  judged_driver : {d : DesignTree} {bs : List BlockTree} {c : DriverData} (v : Verdict) →
      TellsDriver contents spec driver cert d bs c → IsDriverVerdict d (Answers bs) (driver_sets d c) v →
      CheckDriverEnds contents spec driver cert (driver_text d (map length c.goals) v)
      (driver_end (map length c.goals) v)

-- the ends that it may have, whatever its files hold: that one of them is refused, or that of a verdict
pub data CheckDriverMayEnd (driver cert : List ℕ) : Ending → Type 0 where
  may_refuse_design : {ending : Ending} → RefusesSpecification ending → CheckDriverMayEnd driver cert ending
  may_refuse_blocks : {ending : Ending} → RefusesBlocks driver ending → CheckDriverMayEnd driver cert ending
  may_refuse_cert : {ending : Ending} → RefusesCert cert ending → CheckDriverMayEnd driver cert ending
  may_judge_driver : (ranks : List ℕ) (v : Verdict) → CheckDriverMayEnd driver cert (driver_end ranks v)

-- ---- `check SPEC CERT`
-- the files tell a design, and an environment's certificate
pub record TellsEnvironment (contents : List ℕ → Option (List ℕ)) (spec cert : List ℕ) (d : DesignTree)
    (c : EnvData) : Type 0 where
  pub design : TellsSpecification contents spec d
  pub certificate : TellsCert contents cert d Environment (certs.Environment c)

-- the first of the files that is refused, and why
pub data NoEnvironment (contents : List ℕ → Option (List ℕ)) (spec cert : List ℕ) : Ending → Type 0 where
  no_spec : {ending : Ending} → NoSpecification contents spec ending → NoEnvironment contents spec cert ending
  no_levels : {d : DesignTree} {ending : Ending} → TellsSpecification contents spec d →
      NoCert contents cert d Environment ending → NoEnvironment contents spec cert ending

-- the end that a verdict is, given the numbers of levels, of fairness conditions, and of sets in the longest chain
abbrev pub environment_end : (levels conditions chain : ℕ) → Verdict → Ending
environment_end levels conditions chain verdicts.Accepted = AcceptedEnvironment levels conditions chain
environment_end levels conditions chain (verdicts.Refused condition goal s) = Refused condition goal s

-- the lines that tell it
abbrev pub environment_text : DesignTree → (levels conditions chain : ℕ) → Verdict → List ℕ
environment_text d levels conditions chain verdicts.Accepted = levels_text levels conditions chain
environment_text d levels conditions chain (verdicts.Refused condition goal s) =
    refused_text d (codes "E") condition goal s

-- how it ends, with its lines: a file is refused, or the levels are a certificate, or its first condition fails that
-- does
pub data CheckEnvironmentEnds (contents : List ℕ → Option (List ℕ)) (spec cert : List ℕ) :
    List ℕ → Ending → Type 0 where
  unread_environment : {ending : Ending} → NoEnvironment contents spec cert ending →
      CheckEnvironmentEnds contents spec cert [] ending
  judged_environment : {d : DesignTree} {c : EnvData} (v : Verdict) → TellsEnvironment contents spec cert d c →
      IsEnvironmentVerdict d (levels_of d c) v →
      CheckEnvironmentEnds contents spec cert
      (environment_text d (length c.levels) (length (conditions d)) (longest_chain (levels_of d c)) v)
      (environment_end (length c.levels) (length (conditions d)) (longest_chain (levels_of d c)) v)

-- the ends that it may have, whatever its files hold: that one of them is refused, or that of a verdict
pub data CheckEnvironmentMayEnd (cert : List ℕ) : Ending → Type 0 where
  may_refuse_spec : {ending : Ending} → RefusesSpecification ending → CheckEnvironmentMayEnd cert ending
  may_refuse_levels : {ending : Ending} → RefusesCert cert ending → CheckEnvironmentMayEnd cert ending
  may_judge_environment : (levels conditions chain : ℕ) (v : Verdict) →
      CheckEnvironmentMayEnd cert (environment_end levels conditions chain v)

-- The command `migrate`: how it ends, and what it leaves in the files.
use Rattle.std.specs.Prelude.{◌≡◌, ℕ, Option, List}
use Rattle.tm_syntax.specs.Design.{DesignTree}
use Rattle.tm_cert.specs.declared.cert.Cert.{Cert}
use Rattle.tm_cert.specs.declared.shape.Kind.TheVariants.{Either}
use Rattle.tm_cert.specs.CertValue.{IsCertText}
use Rattle.tm_cert.specs.Written.{cert_text}
use Rattle.tm_judge.specs.Shape.{shape_of}
use Rattle.tm_report.specs.declared.ending.Ending.{Ending}
use Rattle.tm_report.specs.declared.ending.Ending.TheVariants.{Migrated}
use Rattle.tm_commands.specs.Inputs.{Tells, TellsSpecification, TellsCert, NoSpecification, NoCert}
use Rattle.tm_commands.specs.Inputs.{RefusesSpecification, RefusesCert}

-- how `migrate` ends: SPEC has a fault, CERT tells no certificate over its design, or CERT's certificate is written
pub data MigrateEnds (contents : List ℕ → Option (List ℕ)) (spec cert : List ℕ) : Ending → Type 0 where
  no_spec : {ending : Ending} → NoSpecification contents spec ending → MigrateEnds contents spec cert ending
  no_cert : {d : DesignTree} {ending : Ending} →
      TellsSpecification contents spec d → NoCert contents cert d Either ending → MigrateEnds contents spec cert ending
  migrates : {d : DesignTree} {c : Cert} →
      TellsSpecification contents spec d → TellsCert contents cert d Either c → MigrateEnds contents spec cert Migrated

-- one of the files of `migrate` is refused, whatever they hold
pub data MigrateRefuses (cert : List ℕ) : Ending → Type 0 where
  refuses_spec : {ending : Ending} → RefusesSpecification ending → MigrateRefuses cert ending
  refuses_cert : {ending : Ending} → RefusesCert cert ending → MigrateRefuses cert ending

-- the ends that `migrate` may have, whatever its files hold
pub data MigrateMayEnd (cert : List ℕ) : Ending → Type 0 where
  may_be_refused : {ending : Ending} → MigrateRefuses cert ending → MigrateMayEnd cert ending
  may_migrate : MigrateMayEnd cert Migrated

-- OUT holds the certificate that CERT told at first over the design that SPEC told, in format 2
pub record IsMigrated (old new : List ℕ → Option (List ℕ)) (spec cert out : List ℕ) : Type 0 where
  pub design : DesignTree
  pub certificate : Cert
  pub specified : TellsSpecification old spec design
  pub told : TellsCert old cert design Either certificate
  pub written : Tells new out (cert_text (shape_of design Either).bits certificate)
  pub same : IsCertText (shape_of design Either) (cert_text (shape_of design Either).bits certificate) certificate

-- what `migrate` leaves in the files: all as it was, unless it ends with the certificate in OUT
abbrev pub MigrateLeaves : (old new : List ℕ → Option (List ℕ)) → (spec cert out : List ℕ) → Ending → Type 0
MigrateLeaves old new spec cert out Migrated = IsMigrated old new spec cert out
MigrateLeaves old new spec cert out _ = new ≡ old

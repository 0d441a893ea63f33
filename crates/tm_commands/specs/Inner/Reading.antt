-- What was read, and what stops a command at a text that is not read.
use Rattle.std.specs.Prelude.{◌≡◌, ℕ, Bool, Option, List, IsTrue}
use Rattle.tm_syntax.specs.declared.fault.FrontError.{FrontError}
use Rattle.tm_syntax.specs.declared.fault.FrontError.TheVariants as front
use Rattle.tm_syntax.specs.declared.token.Token.{Token}
use Rattle.tm_syntax.specs.Design.{DesignTree}
use Rattle.tm_inst.specs.Specification.{IsDesignText}
use Rattle.tm_cert.specs.declared.cert.Cert.{Cert}
use Rattle.tm_cert.specs.declared.refusal.ReadCertError.{ReadCertError}
use Rattle.tm_cert.specs.declared.refusal.ReadCertError.TheVariants.{Bad, Memory}
use Rattle.tm_cert.specs.declared.shape.CertShape.{CertShape}
use Rattle.tm_cert.specs.declared.shape.Kind.TheVariants.{Either}
use Rattle.tm_judge.specs.Shape.{shape_of}
use Rattle.tm_cir.specs.Fit.{FitBlocks}
use Rattle.tm_cir.specs.Tree.{BlockTree}
use Rattle.tm_struct.specs.Fit.{FitsProgram}
use Rattle.tm_struct.specs.Tree.{ProgramTree}
use Rattle.tm_report.specs.declared.ending.Bad.TheVariants as bad_file
use Rattle.tm_report.specs.declared.ending.Ending.{Ending}
use Rattle.tm_report.specs.declared.ending.Ending.TheVariants as endings
use Rattle.tm_report.specs.declared.ending.Failure.TheVariants as failures
use Rattle.tm_commands.specs.declared.stop.Stop.{Stop}
use Rattle.tm_commands.specs.declared.stop.Stop.TheVariants.{Ends, Fails}
use Rattle.tm_commands.specs.Inputs.{Tells, TellsSpecification, TellsBlocks, TellsCert, TellsStructured}

-- a file was read as the text of this design; where the files tell, it is what they tell
pub record IsRead (tells : Bool) (contents : List ℕ → Option (List ℕ)) (spec : List ℕ) (d : DesignTree)
    : Type 0 where
  pub text : List ℕ
  pub tokens : List Token
  pub told : IsTrue tells → Tells contents spec text
  pub is : IsDesignText text tokens d

-- two files were read as a design and a certificate for its numbers; where the files tell, they are what they tell
pub record IsMigration (tells : Bool) (contents : List ℕ → Option (List ℕ)) (spec cert : List ℕ) (shape : CertShape)
    (c : Cert) : Type 0 where
  pub design : DesignTree
  pub shaped : shape ≡ shape_of design Either
  pub specified : IsTrue tells → TellsSpecification contents spec design
  pub certified : IsTrue tells → TellsCert contents cert design Either c

-- two files were read as a design and blocks that fit it; where the files tell, they are what they tell
pub record IsStructureRead (tells : Bool) (contents : List ℕ → Option (List ℕ)) (spec driver : List ℕ)
    (d : DesignTree) (bs : List BlockTree) : Type 0 where
  pub fits : FitBlocks d bs
  pub specified : IsTrue tells → TellsSpecification contents spec d
  pub told : IsTrue tells → TellsBlocks contents driver d bs

-- so as a design and a structured driver that is well made over it
pub record IsUnstructureRead (tells : Bool) (contents : List ℕ → Option (List ℕ)) (spec struct : List ℕ)
    (d : DesignTree) (p : ProgramTree) : Type 0 where
  pub fits : FitsProgram d p
  pub specified : IsTrue tells → TellsSpecification contents spec d
  pub told : IsTrue tells → TellsStructured contents struct d p

-- what stops a command at a text that is not read: its fault, or want of memory
abbrev pub refusal_of : FrontError → Stop
refusal_of (front.Faulty f) = Ends (endings.Faulty f)
refusal_of front.Memory = Fails failures.Memory

-- an end that tells the fault of a text that is no certificate
abbrev pub IsBadCert : List ℕ → ReadCertError → Ending → Type 0
IsBadCert name (Bad bad) ending = ending ≡ endings.BadText name (bad_file.Cert bad)
IsBadCert name Memory ending = ⊥

-- What files tell: a design, blocks, a structured driver, choices or a certificate, or why they tell none.
use Rattle.std.specs.Prelude.{◌≡◌, ℕ, ◌≤◌, Option, Some, Ok, Err, List, length}
use Rattle.tm_base.specs.Files.{IsLonger}
use Rattle.tm_syntax.specs.declared.fault.Faulty.{Faulty as Fault}
use Rattle.tm_syntax.specs.declared.token.Token.{Token}
use Rattle.tm_syntax.specs.Limits.{file_limit}
use Rattle.tm_syntax.specs.Design.{DesignTree}
use Rattle.tm_syntax.specs.Faults.{FaultOf}
use Rattle.tm_inst.specs.Specification.{IsDesignText}
use Rattle.tm_cir.specs.Tree.{BlockTree}
use Rattle.tm_cparse.specs.declared.bad.BadDriver.{BadDriver}
use Rattle.tm_cparse.specs.Faults.{IsDriverFile, HasFault}
use Rattle.tm_struct.specs.Tree.{ProgramTree}
use Rattle.tm_struct_parse.specs.declared.bad.BadStructured.{BadStructured}
use Rattle.tm_struct_parse.specs.Faults.{IsStructuredFile, HasFault as HasStructuredFault}
use Rattle.tm_cert.specs.declared.cert.Cert.{Cert as Certificate}
use Rattle.tm_cert.specs.declared.refusal.BadCert.{BadCert}
use Rattle.tm_cert.specs.declared.shape.Kind.{Kind}
use Rattle.tm_cert.specs.CertValue.{IsCertText}
use Rattle.tm_cert.specs.Judge.{judge_text}
use Rattle.tm_judge.specs.Shape.{shape_of}
use Rattle.tm_report.specs.declared.ending.Ending.{Ending}
use Rattle.tm_report.specs.declared.ending.Ending.TheVariants.{Faulty, BadText}
use Rattle.tm_report.specs.declared.ending.Bad.TheVariants.{TooLong, Driver, Structured, Cert, Choices}
use Rattle.tm_play.specs.Script.{ScriptData}
use Rattle.tm_play.specs.Choices.{reading_of}

-- the file tells this text
abbrev pub Tells : (List ℕ → Option (List ℕ)) → List ℕ → List ℕ → Type 0
Tells contents name text = contents name ≡ Some text

-- SPEC tells this design
pub record TellsSpecification (contents : List ℕ → Option (List ℕ)) (spec : List ℕ) (d : DesignTree) : Type 0 where
  pub text : List ℕ
  pub tokens : List Token
  pub told : Tells contents spec text
  pub is : IsDesignText text tokens d

-- SPEC has this fault
pub record TellsFault (contents : List ℕ → Option (List ℕ)) (spec : List ℕ) (f : Fault) : Type 0 where
  pub text : List ℕ
  pub told : Tells contents spec text
  pub fault : FaultOf text f

-- DRIVER tells these blocks over a design
pub record TellsBlocks
    (contents : List ℕ → Option (List ℕ)) (driver : List ℕ) (d : DesignTree) (bs : List BlockTree) : Type 0 where
  pub text : List ℕ
  pub told : Tells contents driver text
  pub is : IsDriverFile d text bs

-- DRIVER is within its limit, and has this fault over a design
pub record TellsBadDriver
    (contents : List ℕ → Option (List ℕ)) (driver : List ℕ) (d : DesignTree) (bad : BadDriver) : Type 0 where
  pub text : List ℕ
  pub told : Tells contents driver text
  pub short : length text ≤ file_limit
  pub fault : HasFault d text bad

-- STRUCT tells this structured driver over a design
pub record TellsStructured
    (contents : List ℕ → Option (List ℕ)) (struct : List ℕ) (d : DesignTree) (p : ProgramTree) : Type 0 where
  pub text : List ℕ
  pub told : Tells contents struct text
  pub is : IsStructuredFile d text p

-- STRUCT is within its limit, and has this fault over a design
pub record TellsBadStructured
    (contents : List ℕ → Option (List ℕ)) (struct : List ℕ) (d : DesignTree) (bad : BadStructured) : Type 0 where
  pub text : List ℕ
  pub told : Tells contents struct text
  pub short : length text ≤ file_limit
  pub fault : HasStructuredFault d text bad

-- CHOICES tells this start line and these steps over a design
pub record TellsScript
    (contents : List ℕ → Option (List ℕ)) (choices : List ℕ) (d : DesignTree) (c : ScriptData) : Type 0 where
  pub text : List ℕ
  pub told : Tells contents choices text
  pub short : length text ≤ file_limit
  pub reads : reading_of d.processes text ≡ Ok c

-- CHOICES has this first bad line over a design
pub record TellsBadLine
    (contents : List ℕ → Option (List ℕ)) (choices : List ℕ) (d : DesignTree) (n : ℕ) : Type 0 where
  pub text : List ℕ
  pub told : Tells contents choices text
  pub short : length text ≤ file_limit
  pub reads : reading_of d.processes text ≡ Err n

-- CERT tells this certificate of a wanted kind, for the numbers of a design
pub record TellsCert (contents : List ℕ → Option (List ℕ)) (cert : List ℕ) (d : DesignTree) (wanted : Kind)
    (c : Certificate) : Type 0 where
  pub text : List ℕ
  pub told : Tells contents cert text
  pub short : length text ≤ file_limit
  pub is : IsCertText (shape_of d wanted) text c

-- CERT is within its limit, and has this first fault for the numbers of a design
pub record TellsBadCert (contents : List ℕ → Option (List ℕ)) (cert : List ℕ) (d : DesignTree) (wanted : Kind)
    (bad : BadCert) : Type 0 where
  pub text : List ℕ
  pub told : Tells contents cert text
  pub short : length text ≤ file_limit
  pub fault : judge_text (shape_of d wanted) text ≡ Err bad

-- SPEC is refused, whatever it holds
pub data RefusesSpecification : Ending → Type 0 where
  refuses_specification : {f : Fault} → RefusesSpecification (Faulty f)

-- DRIVER is refused, whatever it holds
pub data RefusesBlocks (driver : List ℕ) : Ending → Type 0 where
  refuses_long_driver : RefusesBlocks driver (BadText driver TooLong)
  refuses_bad_driver : {bad : BadDriver} → RefusesBlocks driver (BadText driver (Driver bad))

-- STRUCT is refused, whatever it holds
pub data RefusesStructured (struct : List ℕ) : Ending → Type 0 where
  refuses_long_struct : RefusesStructured struct (BadText struct TooLong)
  refuses_bad_struct : {bad : BadStructured} → RefusesStructured struct (BadText struct (Structured bad))

-- CHOICES is refused, whatever it holds
pub data RefusesScript (choices : List ℕ) : Ending → Type 0 where
  refuses_long_choices : RefusesScript choices (BadText choices TooLong)
  refuses_bad_choices : {n : ℕ} → RefusesScript choices (BadText choices (Choices n))

-- CERT is refused, whatever it holds
pub data RefusesCert (cert : List ℕ) : Ending → Type 0 where
  refuses_long_cert : RefusesCert cert (BadText cert TooLong)
  refuses_bad_cert : {bad : BadCert} → RefusesCert cert (BadText cert (Cert bad))

-- why SPEC tells no design
pub data NoSpecification (contents : List ℕ → Option (List ℕ)) (spec : List ℕ) : Ending → Type 0 where
  faulty_spec : {f : Fault} → TellsFault contents spec f → NoSpecification contents spec (Faulty f)

-- why DRIVER tells no blocks over a design
pub data NoBlocks (contents : List ℕ → Option (List ℕ)) (driver : List ℕ) (d : DesignTree) : Ending → Type 0 where
  long_driver : IsLonger (contents driver) file_limit → NoBlocks contents driver d (BadText driver TooLong)
  bad_driver : {bad : BadDriver} → TellsBadDriver contents driver d bad →
      NoBlocks contents driver d (BadText driver (Driver bad))

-- why STRUCT tells no structured driver over a design
pub data NoStructured (contents : List ℕ → Option (List ℕ)) (struct : List ℕ) (d : DesignTree) : Ending → Type 0 where
  long_struct : IsLonger (contents struct) file_limit → NoStructured contents struct d (BadText struct TooLong)
  bad_struct : {bad : BadStructured} → TellsBadStructured contents struct d bad →
      NoStructured contents struct d (BadText struct (Structured bad))

-- why CHOICES tells no choices over a design
pub data NoScript (contents : List ℕ → Option (List ℕ)) (choices : List ℕ) (d : DesignTree) : Ending → Type 0 where
  long_choices : IsLonger (contents choices) file_limit → NoScript contents choices d (BadText choices TooLong)
  bad_choices : {n : ℕ} → TellsBadLine contents choices d n → NoScript contents choices d (BadText choices (Choices n))

-- why CERT tells no certificate of a wanted kind for the numbers of a design
pub data NoCert (contents : List ℕ → Option (List ℕ)) (cert : List ℕ) (d : DesignTree) (wanted : Kind) :
    Ending → Type 0 where
  long_cert : IsLonger (contents cert) file_limit → NoCert contents cert d wanted (BadText cert TooLong)
  bad_cert : {bad : BadCert} → TellsBadCert contents cert d wanted bad →
      NoCert contents cert d wanted (BadText cert (Cert bad))

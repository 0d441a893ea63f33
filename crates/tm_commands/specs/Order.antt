-- The order in which a command reads and writes its files: each only where those before it were judged well.
use Rattle.std.specs.Prelude.{◌≡◌, ℕ, Option, Some, List}
use Rattle.tm_syntax.specs.Design.{DesignTree}
use Rattle.tm_cir.specs.Tree.{BlockTree}
use Rattle.tm_cert.specs.declared.cert.Cert.{Cert as Certificate}
use Rattle.tm_cert.specs.declared.shape.Kind.TheVariants.{Either}
use Rattle.tm_struct.specs.Tree.{ProgramTree}
use Rattle.tm_commands.specs.Inputs.{TellsSpecification, TellsBlocks, TellsCert, TellsStructured}
use Rattle.tm_commands.specs.Words.{Command, run, synthesise, check_driver, check_environment, migrate, structure}
use Rattle.tm_commands.specs.Words.{unstructure}

-- a file of three is due to be read: SPEC at once, DRIVER where SPEC tells a design, and the third where DRIVER tells
-- blocks over it
pub data IsDueOfThree (contents : List ℕ → Option (List ℕ)) (spec driver third : List ℕ) : List ℕ → Type 0 where
  spec_is_due : IsDueOfThree contents spec driver third spec
  driver_is_due : {d : DesignTree} → TellsSpecification contents spec d → IsDueOfThree contents spec driver third driver
  third_is_due : {d : DesignTree} {bs : List BlockTree} → TellsSpecification contents spec d →
      TellsBlocks contents driver d bs → IsDueOfThree contents spec driver third third

-- a file of two is due to be read: SPEC at once, and the second where SPEC tells a design
pub data IsDueOfTwo (contents : List ℕ → Option (List ℕ)) (spec second : List ℕ) : List ℕ → Type 0 where
  first_is_due : IsDueOfTwo contents spec second spec
  second_is_due : {d : DesignTree} → TellsSpecification contents spec d → IsDueOfTwo contents spec second second

-- a file of a command is due to be read
abbrev pub IsDue : (List ℕ → Option (List ℕ)) → Option Command → List ℕ → Type 0
IsDue contents (Some (run spec driver choices)) = IsDueOfThree contents spec driver choices
IsDue contents (Some (synthesise spec out budget)) = λ name. name ≡ spec
IsDue contents (Some (check_driver spec driver cert)) = IsDueOfThree contents spec driver cert
IsDue contents (Some (check_environment spec cert)) = IsDueOfTwo contents spec cert
IsDue contents (Some (migrate spec cert out)) = IsDueOfTwo contents spec cert
IsDue contents (Some (structure spec driver out)) = IsDueOfTwo contents spec driver
IsDue contents (Some (unstructure spec struct out)) = IsDueOfTwo contents spec struct
IsDue contents _ = λ name. ⊥

-- what a command writes is due: that of `synth` where SPEC tells a design, that of `migrate`, `structure` and
-- `unstructure` where the second file tells a certificate, blocks or a structured driver over it, too, and that of
-- `gen` at once
abbrev pub IsWriteDue : (List ℕ → Option (List ℕ)) → Option Command → Type 0
IsWriteDue contents (Some (synthesise spec out budget)) = (d : DesignTree) × TellsSpecification contents spec d
IsWriteDue contents (Some (migrate spec cert out)) =
    (d : DesignTree) × (c : Certificate) × TellsSpecification contents spec d × TellsCert contents cert d Either c
IsWriteDue contents (Some (structure spec driver out)) =
    (d : DesignTree) × (bs : List BlockTree) × TellsSpecification contents spec d × TellsBlocks contents driver d bs
IsWriteDue contents (Some (unstructure spec struct out)) =
    (d : DesignTree) × (p : ProgramTree) × TellsSpecification contents spec d × TellsStructured contents struct d p
IsWriteDue contents _ = Unit {0}

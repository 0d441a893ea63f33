-- The commands `structure` and `unstructure`: how they end, and what they leave in the files.
use Rattle.std.specs.Prelude.{◌≡◌, ◌↔◌, ℕ, Option, List, length}
use Rattle.tm_syntax.specs.Design.{DesignTree}
use Rattle.tm_sem.specs.State.{StateData}
use Rattle.tm_sem.specs.declared.state.Move.{Move}
use Rattle.tm_cir.specs.Answer.{Answers}
use Rattle.tm_cir.specs.Text.{IsDriverText}
use Rattle.tm_cir.specs.Tree.{BlockTree}
use Rattle.tm_struct.specs.Answer.{AnswersSo}
use Rattle.tm_struct.specs.Shape.{IsShape}
use Rattle.tm_struct.specs.Text.{IsStructuredText}
use Rattle.tm_struct.specs.Tree.{ProgramTree}
use Rattle.tm_report.specs.declared.ending.Ending.{Ending}
use Rattle.tm_report.specs.declared.ending.Ending.TheVariants.{Structured, Unstructured}
use Rattle.tm_commands.specs.Inputs.{Tells, TellsSpecification, TellsBlocks, TellsStructured}
use Rattle.tm_commands.specs.Inputs.{NoSpecification, NoBlocks, NoStructured}
use Rattle.tm_commands.specs.Inputs.{RefusesSpecification, RefusesBlocks, RefusesStructured}

-- ---- `structure SPEC DRIVER OUT`
-- how it ends: SPEC has a fault, DRIVER tells no blocks over its design, or the shape of these, which has so many
-- functions, is written
pub data StructureEnds (contents : List ℕ → Option (List ℕ)) (spec driver : List ℕ) : Ending → Type 0 where
  no_spec : {ending : Ending} → NoSpecification contents spec ending → StructureEnds contents spec driver ending
  no_driver : {d : DesignTree} {ending : Ending} → TellsSpecification contents spec d →
      NoBlocks contents driver d ending → StructureEnds contents spec driver ending
  structures : {d : DesignTree} {bs : List BlockTree} {p : ProgramTree} → TellsSpecification contents spec d →
      TellsBlocks contents driver d bs → IsShape bs p →
      StructureEnds contents spec driver (Structured (length p.functions))

-- one of its files is refused, whatever they hold
pub data StructureRefuses (driver : List ℕ) : Ending → Type 0 where
  refuses_spec : {ending : Ending} → RefusesSpecification ending → StructureRefuses driver ending
  refuses_driver : {ending : Ending} → RefusesBlocks driver ending → StructureRefuses driver ending

-- the ends that it may have, whatever its files hold
pub data StructureMayEnd (driver : List ℕ) : Ending → Type 0 where
  may_be_refused : {ending : Ending} → StructureRefuses driver ending → StructureMayEnd driver ending
  may_structure : {n : ℕ} → StructureMayEnd driver (Structured n)

-- the text is the shape of blocks over a design, with so many functions
pub record IsShapeText (d : DesignTree) (bs : List BlockTree) (text : List ℕ) (n : ℕ) : Type 0 where
  pub program : ProgramTree
  pub shape : IsShape bs program
  pub many : length program.functions ≡ n
  pub is : IsStructuredText d text program

-- OUT holds the shape of the blocks that DRIVER told at first over the design that SPEC told, with so many functions
pub record IsStructured (old new : List ℕ → Option (List ℕ)) (spec driver out : List ℕ) (n : ℕ) : Type 0 where
  pub design : DesignTree
  pub blocks : List BlockTree
  pub text : List ℕ
  pub specified : TellsSpecification old spec design
  pub told : TellsBlocks old driver design blocks
  pub written : Tells new out text
  pub shape : IsShapeText design blocks text n

-- what it leaves in the files: all as it was, unless it ends with the structured driver in OUT
abbrev pub StructureLeaves : (old new : List ℕ → Option (List ℕ)) → (spec driver out : List ℕ) → Ending → Type 0
StructureLeaves old new spec driver out (Structured n) = IsStructured old new spec driver out n
StructureLeaves old new spec driver out _ = new ≡ old

-- ---- `unstructure SPEC STRUCT OUT`
-- how it ends: SPEC has a fault, STRUCT tells no structured driver over its design, or blocks of it are written; how
-- many these are is left open
pub data UnstructureEnds (contents : List ℕ → Option (List ℕ)) (spec struct : List ℕ) : Ending → Type 0 where
  no_specification : {ending : Ending} → NoSpecification contents spec ending →
      UnstructureEnds contents spec struct ending
  no_struct : {d : DesignTree} {ending : Ending} → TellsSpecification contents spec d →
      NoStructured contents struct d ending → UnstructureEnds contents spec struct ending
  unstructures : {d : DesignTree} {p : ProgramTree} {n : ℕ} → TellsSpecification contents spec d →
      TellsStructured contents struct d p → UnstructureEnds contents spec struct (Unstructured n)

-- ends that what the files hold does not tell apart: of drivers that are written any two numbers of blocks
abbrev pub AreAlikeBlocks : (answered ending : Ending) → Type 0
AreAlikeBlocks (Unstructured m) (Unstructured n) = Unit {0}
AreAlikeBlocks answered ending = answered ≡ ending

-- one of its files is refused, whatever they hold
pub data UnstructureRefuses (struct : List ℕ) : Ending → Type 0 where
  refuses_specification : {ending : Ending} → RefusesSpecification ending → UnstructureRefuses struct ending
  refuses_struct : {ending : Ending} → RefusesStructured struct ending → UnstructureRefuses struct ending

-- the ends that it may have, whatever its files hold
pub data UnstructureMayEnd (struct : List ℕ) : Ending → Type 0 where
  may_not_be_read : {ending : Ending} → UnstructureRefuses struct ending → UnstructureMayEnd struct ending
  may_unstructure : {n : ℕ} → UnstructureMayEnd struct (Unstructured n)

-- the text is so many blocks over a design, which answer as a structured driver does
pub record AreBlocksOf (d : DesignTree) (p : ProgramTree) (text : List ℕ) (n : ℕ) : Type 0 where
  pub blocks : List BlockTree
  pub many : length blocks ≡ n
  pub same : (s : StateData) (goal : ℕ) (m : Move) → Answers blocks s goal m ↔ AnswersSo p s goal m
  pub is : IsDriverText d text blocks

-- OUT holds so many blocks that answer as the driver does which STRUCT told at first over the design that SPEC told
pub record IsUnstructured (old new : List ℕ → Option (List ℕ)) (spec struct out : List ℕ) (n : ℕ) : Type 0 where
  pub design : DesignTree
  pub program : ProgramTree
  pub text : List ℕ
  pub specified : TellsSpecification old spec design
  pub told : TellsStructured old struct design program
  pub written : Tells new out text
  pub blocks : AreBlocksOf design program text n

-- what it leaves in the files: all as it was, unless it ends with the blocks in OUT
abbrev pub UnstructureLeaves : (old new : List ℕ → Option (List ℕ)) → (spec struct out : List ℕ) → Ending → Type 0
UnstructureLeaves old new spec struct out (Unstructured n) = IsUnstructured old new spec struct out n
UnstructureLeaves old new spec struct out _ = new ≡ old

-- The structured text of a driver over a design: the include on a line of its own, and then the tokens of its
-- functions, with any blanks before, between and behind them (ISO/IEC 9899:2011, 6.4 and 6.10.2).
pub mod Grammar
pub mod Spelling
use Rattle.std.specs.Prelude.{List, ℕ}
use Rattle.tm_syntax.specs.Design.{DesignTree}
use Rattle.tm_cir.specs.Text.Spelling.{HasInclude}
use Rattle.tm_struct.specs.Tree.{ProgramTree}
use Rattle.tm_struct.specs.Fit.{FitsProgram}
use Rattle.tm_struct.specs.Text.Grammar.{program_tokens}
use Rattle.tm_struct.specs.Text.Spelling.{AreTokens}

-- the text is this driver: its tokens stand behind the include, and it is well made over the design
pub record IsStructuredText (d : DesignTree) (text : List ℕ) (p : ProgramTree) : Type 0 where
  pub body : List ℕ
  pub include : HasInclude text body
  pub functions : AreTokens d body (program_tokens p)
  pub fits : FitsProgram d p

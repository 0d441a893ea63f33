-- The C text of blocks over a design: the include on a line of its own, and then the tokens of the one function, with
-- any blanks before, between and behind them (ISO/IEC 9899:2011, 6.4 and 6.10.2).
pub mod Grammar
pub mod Spelling
pub mod Token
use Rattle.std.specs.Prelude.{List, ℕ}
use Rattle.tm_syntax.specs.Design.{DesignTree}
use Rattle.tm_cir.specs.Tree.{BlockTree}
use Rattle.tm_cir.specs.Fit.{FitBlocks}
use Rattle.tm_cir.specs.Text.Grammar.{driver_tokens}
use Rattle.tm_cir.specs.Text.Spelling.{HasInclude, AreTokens}

-- the text is these blocks: their tokens stand behind the include, and they fit the design, so each test names later
-- blocks, and each call has as many arguments as its task has parameters
pub record IsDriverText (d : DesignTree) (text : List ℕ) (bs : List BlockTree) : Type 0 where
  pub body : List ℕ
  pub include : HasInclude text body
  pub function : AreTokens d body (driver_tokens bs)
  pub fits : FitBlocks d bs

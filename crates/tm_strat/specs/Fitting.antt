-- Blocks that are made from drafted ones.
use Rattle.std.specs.Prelude.{◌≡◌, ℕ, ◌<◌, List, Some, length, slice_get}
use Rattle.tm_cir.specs.declared.block.Block.{Block}
use Rattle.tm_cir.specs.Fit.{FitsBlock}
use Rattle.tm_cir.specs.View.{block_tree}
use Rattle.tm_strat.specs.declared.numbers.Counts.{Counts}
use Rattle.tm_strat_drafts.specs.Blocks.{FitsLater}
use Rattle.tm_strat_drafts.specs.declared.drafts.DraftBlock.{DraftBlock}
use Rattle.tm_syntax.specs.Design.{DesignTree}

-- variables and processes are those of a design
pub record FitsCounts (d : DesignTree) (c : Counts) : Type 0 where
  pub vars : c.vars ≡ length d.vars
  pub processes : c.processes ≡ length d.processes

-- a block fits a design wherever a drafted one leads on to later blocks alone
abbrev pub IsSpelled : DesignTree → DraftBlock → Block → Type 0
IsSpelled d drafted b = (tests count at : ℕ) → FitsLater tests count at drafted → FitsBlock d count at (block_tree b)

-- so many blocks are, one for each drafted one
pub record AreSpelled (d : DesignTree) (drafted : List DraftBlock) (bs : List Block) (n : ℕ) : Type 0 where
  pub count : length bs ≡ n
  pub each : (k : ℕ) (x : DraftBlock) (b : Block) → k < n → slice_get drafted k ≡ Some x → slice_get bs k ≡ Some b →
      IsSpelled d x b

-- each of these blocks does, whatever its number is, and however many there are
pub record FitAnywhere (d : DesignTree) (bs : List Block) : Type 0 where
  pub each : (k : ℕ) (b : Block) → slice_get bs k ≡ Some b → (count at : ℕ) → FitsBlock d count at (block_tree b)

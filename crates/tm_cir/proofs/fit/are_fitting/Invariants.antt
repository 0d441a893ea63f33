use Rattle.std.proofs.Common.{◌≡◌, ℕ, ◌<◌, Some, length, slice_get}
use Rattle.tm_syntax.specs.Design.View.{design_tree}
use Rattle.tm_cir.specs.Tree.{BlockTree}
use Rattle.tm_cir.specs.View.{block_trees}
use Rattle.tm_cir.specs.Fit.{FitsBlock}
use Rattle.tm_cir.proofs.fit.are_fitting.Given as goal

abbrev pub invariant-loop-at : goal.invariant-loop-at
invariant-loop-at l = (k : ℕ) (b : BlockTree) → k < l.at → slice_get (block_trees l.blocks) k ≡ Some b →
    FitsBlock (design_tree l.design) (length l.blocks) k b

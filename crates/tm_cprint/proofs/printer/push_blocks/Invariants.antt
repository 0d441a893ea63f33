use Rattle.std.proofs.Common.{◌≡◌, ◌++◌, drop}
use Rattle.tm_syntax.specs.Design.View.{design_tree}
use Rattle.tm_cir.specs.View.{block_trees}
use Rattle.tm_cprint.specs.Layout.{blocks_text}
use Rattle.tm_cprint.proofs.printer.push_blocks.Given as goal

abbrev pub invariant-loop-label : goal.invariant-loop-label
invariant-loop-label l =
    l.text.items ++ blocks_text (design_tree l.design) l.label (block_trees (drop l.label l.blocks))
    ≡ l.initial.text.items ++ blocks_text (design_tree l.design) 0 (block_trees l.blocks)

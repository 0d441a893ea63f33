use Rattle.std.proofs.Common.{◌≡◌, map, take}
use Rattle.tm_cir.specs.View.{block_trees}
use Rattle.tm_strat.specs.Fitting.{AreSpelled}
use Rattle.tm_strat.specs.Spelled.{draft_tree}
use Rattle.tm_strat.proofs.spelling.spelled.Given as goal
use Rattle.tm_syntax.specs.Design.View.{design_tree}

abbrev pub invariant-loop-index : goal.invariant-loop-index
invariant-loop-index l =
    AreSpelled (design_tree l.design) l.drafted l.blocks.items l.index
    × (block_trees l.blocks.items ≡ map (draft_tree (design_tree l.design) l.spelling) (take l.index l.drafted))

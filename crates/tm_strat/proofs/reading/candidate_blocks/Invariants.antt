use Rattle.std.proofs.Common.{◌≡◌, take}
use Rattle.tm_cir.specs.View.{block_trees}
use Rattle.tm_strat.specs.Fitting.{FitAnywhere}
use Rattle.tm_strat.specs.Served.{candidate_trees}
use Rattle.tm_strat.proofs.reading.candidate_blocks.Given as goal
use Rattle.tm_syntax.specs.Design.View.{design_tree}

abbrev pub invariant-loop-candidate : goal.invariant-loop-candidate
invariant-loop-candidate l = record {
  fit : FitAnywhere (design_tree l.design) l.list.items;
  trees : block_trees l.list.items
      ≡ candidate_trees (design_tree l.design) l.counts l.shapes (take l.candidate-index l.candidates);
}

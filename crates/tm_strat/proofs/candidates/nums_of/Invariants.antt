use Rattle.std.proofs.Common.{◌≡◌, All, map, take}
use Rattle.tm_cir.specs.Fit.{FitsNum}
use Rattle.tm_cir.specs.View.{num_tree}
use Rattle.tm_strat.specs.Trees.{expression_tree}
use Rattle.tm_strat.proofs.candidates.nums_of.Given as goal

abbrev pub invariant-loop-index : goal.invariant-loop-index
invariant-loop-index l =
    All (FitsNum l.counts.vars l.counts.processes) (map num_tree l.nums.items)
    × (map num_tree l.nums.items ≡ map (expression_tree l.counts) (take l.index l.arguments))

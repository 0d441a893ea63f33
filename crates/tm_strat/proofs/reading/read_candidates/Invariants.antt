use Rattle.tm_strat.specs.Served.{AreGivenFor, candidate_trees}
use Rattle.tm_strat.proofs.reading.read_candidates.Given as goal
use Rattle.tm_syntax.specs.Design.View.{design_tree}

abbrev pub invariant-loop-index : goal.invariant-loop-index
invariant-loop-index l =
    AreGivenFor (design_tree l.design) l.game l.shapes
    (candidate_trees (design_tree l.design) l.fn.counts l.shapes l.candidates) l.all.items l.index

use Rattle.tm_reorder.proofs.Branches.{kept_parts}
use Rattle.tm_reorder.proofs.raising.kept_whole.Goals as goal

pub returns-clause-part : goal.returns-clause-part
returns-clause-part c = λ old k is lo_is hi_is.
    kept_parts old c.args.level k c.args.entry is c.args.graph.now.entries.keys c.branch-graph.new.self.entries.keys
    c.branch-graph-2.new.self.entries.keys c.branch-graph-3.new.self.entries.keys c.args.lo c.args.hi
    c.in_ok-whole_lo.whole_lo c.in_ok-whole_hi.whole_hi c.in_ok-whole.whole lo_is hi_is c.branch-graph.ensures.keeps
    c.branch-graph-2.ensures.keeps c.in_ok-whole_lo.ensures.answer c.in_ok-whole_hi.ensures.answer
    c.in_ok-whole.ensures.answer

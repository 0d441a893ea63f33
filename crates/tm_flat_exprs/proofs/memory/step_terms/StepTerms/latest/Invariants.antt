use Rattle.std.proofs.Common.{◌-◌}
use Rattle.tm_flat_exprs.proofs.Versions.{ArePassed}
use Rattle.tm_flat_exprs.proofs.memory.step_terms.StepTerms.latest.Given as goal

abbrev pub invariant-loop-behind : goal.invariant-loop-behind
invariant-loop-behind l = ArePassed l.self l.cell (l.count - l.behind)

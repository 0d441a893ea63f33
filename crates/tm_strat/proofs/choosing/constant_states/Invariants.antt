use Rattle.std.proofs.Common.{◌≡◌}
use Rattle.tm_strat.specs.Constants.{constant_parts}
use Rattle.tm_strat.proofs.choosing.constant_states.Given as goal

abbrev pub invariant-loop-index : goal.invariant-loop-index
invariant-loop-index l = l.parts.items ≡ constant_parts l.first l.bits l.index

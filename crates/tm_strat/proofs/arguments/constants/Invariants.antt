use Rattle.std.proofs.Common.{◌≡◌, ◌≤◌, ◌++◌, drop}
use Rattle.tm_strat.specs.Spelled.{constants_from}
use Rattle.tm_strat.proofs.arguments.constants.Given as goal

abbrev pub invariant-loop-index : goal.invariant-loop-index
invariant-loop-index l =
    (l.found.items ++ constants_from l.bits l.first (drop l.index l.widths) ≡ constants_from l.bits 0 l.widths)
    × (l.first ≤ 64)

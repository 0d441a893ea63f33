use Rattle.std.proofs.Common.{◌≡◌}
use Rattle.tm_flat.specs.BitRun.{number_at}
use Rattle.tm_strat.specs.Spelled.{bit_in}
use Rattle.tm_strat.proofs.arguments.constant.Given as goal

abbrev pub invariant-loop-index : goal.invariant-loop-index
invariant-loop-index l = l.number ≡ number_at (bit_in l.bits) l.first l.index

use Rattle.tm_game_bits.proofs.Weights.{IsOrdered}
use Rattle.tm_game_bits.proofs.order.weight_order.Given as goal

abbrev pub invariant-loop-passed : goal.invariant-loop-passed
invariant-loop-passed l = IsOrdered l.widths l.order.items l.passed

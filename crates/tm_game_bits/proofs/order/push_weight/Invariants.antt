use Rattle.tm_game_bits.proofs.Weights.{IsPlaced}
use Rattle.tm_game_bits.proofs.order.push_weight.Given as goal

abbrev pub invariant-loop-width : goal.invariant-loop-width
invariant-loop-width l = IsPlaced l.widths l.fn.order.items l.weight l.order.items l.start l.width-index

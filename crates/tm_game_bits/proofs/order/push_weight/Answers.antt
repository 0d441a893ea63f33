use Rattle.tm_game_bits.proofs.Weights.{placed_first}
use Rattle.tm_game_bits.proofs.order.push_weight.Goals as goal

pub loop-width-init : goal.loop-width-init
loop-width-init c = placed_first c.args.widths.now c.args.order.now.items c.args.weight

use Rattle.tm_game_bits.proofs.Orders.{ArePlaced}
use Rattle.tm_game_bits.proofs.levels.levels_by_place.Given as goal

abbrev pub invariant-loop-level : goal.invariant-loop-level
invariant-loop-level l = ArePlaced l.order l.levels.items l.level

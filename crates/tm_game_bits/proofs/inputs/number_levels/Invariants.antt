use Rattle.tm_game_bits.proofs.Pieces.{ArePieces}
use Rattle.tm_game_bits.proofs.inputs.number_levels.Given as goal

abbrev pub invariant-loop-width : goal.invariant-loop-width
invariant-loop-width l = ArePieces l.by_place l.widths l.levels.items l.place l.width-index

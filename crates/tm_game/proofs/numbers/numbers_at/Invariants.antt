use Rattle.tm_game.proofs.Reading.{AreRead}
use Rattle.tm_game.proofs.numbers.numbers_at.Given as goal

abbrev pub invariant-loop-width : goal.invariant-loop-width
invariant-loop-width l = AreRead l.bits l.widths l.numbers.items l.place l.width-index

use Rattle.std.proofs.Common.{All, take}
use Rattle.tm_base.specs.Arithmetic.{IsWidth}
use Rattle.test_game.proofs.bits.bench.are_widths.Given as goal

abbrev pub invariant-loop-width : goal.invariant-loop-width
invariant-loop-width l = All IsWidth (take l.width-index l.widths)

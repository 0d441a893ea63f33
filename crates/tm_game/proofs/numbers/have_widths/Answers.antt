use Rattle.std.proofs.Common.{arith}
use Rattle.std.proofs.lemmas.Slice.Zip.{either_empty_from_Zip}
use Rattle.tm_game.proofs.Writing.{none_fails}
use Rattle.tm_game.proofs.numbers.have_widths.Goals as goal

pub returns : goal.returns
returns c =
    none_fails _ _ c.args.widths.now c.args.numbers.now
    (either_empty_from_Zip c.loop-width.width-iterator c.next.new.self c.next.result c.in-None.is c.next.ensures.steps)
    (omega (arith, c.if-widths-numbers.false)) c.loop-width.invariant

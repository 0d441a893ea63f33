use Rattle.std.proofs.Common.{ℕ}
use Rattle.std.proofs.lemmas.Slice.Zip.{either_empty_from_Zip}
use Rattle.tm_base.specs.Bits.{bits_of}
use Rattle.tm_game.proofs.Writing.{zip_ended}
use Rattle.tm_game.proofs.numbers.push_numbers.Goals as goal

pub returns : goal.returns
returns c =
    zip_ended (λ (p : ℕ × ℕ). bits_of p.0 p.1) _ _ _ _
    (either_empty_from_Zip c.loop-width.width-iterator c.next.new.self c.next.result c.in-None.is c.next.ensures.steps)
    c.loop-width.invariant

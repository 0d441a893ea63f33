use Rattle.std.specs.Prelude.{All}
use Rattle.tm_dd.specs.Table.{Table, Knows}
use Rattle.tm_blast.proofs.Places.{ArePlaced}
use Rattle.tm_blast.proofs.place.placed.Given as goal

abbrev pub invariant-loop-weight : goal.invariant-loop-weight
invariant-loop-weight l = (s : Table) → All (Knows s) l.a → ArePlaced l.low l.width l.a l.bits.items l.weight s

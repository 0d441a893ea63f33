use Rattle.std.proofs.Common.{◌≡◌, take}
use Rattle.tm_flat_moves.proofs.mover.Mover.variables.Given as goal

abbrev pub invariant-loop-number : goal.invariant-loop-number
invariant-loop-number l = l.ids.items ≡ take l.number l.memory.values

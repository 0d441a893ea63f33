use Rattle.std.proofs.Common.{◌≡◌, None, replicate}
use Rattle.tm_struct.proofs.naming.no_numbers.Given as goal

abbrev pub invariant-loop-at : goal.invariant-loop-at
invariant-loop-at l = l.numbers.items ≡ replicate l._at None

use Rattle.std.proofs.Common.{◌≡◌, ◌++◌, replicate}
use Rattle.tm_flat_states.proofs.inputs.push_bits.Given as goal

abbrev pub invariant-loop-count : goal.invariant-loop-count
invariant-loop-count l = l.widths.items ≡ l.fn.widths.items ++ replicate l._count 1

use Rattle.std.proofs.Common.{take}
use Rattle.tm_flat_states.proofs.Choosing.{Found}
use Rattle.tm_flat_states.proofs.truths.truth_of_number.Given as goal

abbrev pub invariant-loop-number : goal.invariant-loop-number
invariant-loop-number l = Found l.fn.terms l.terms l.of (take l.number l.truths) l.found

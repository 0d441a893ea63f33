use Rattle.std.proofs.Common.{take}
use Rattle.tm_flat_states.specs.Bounds.{MakesTest, MeetAll}
use Rattle.tm_flat_states.proofs.bounds.are_within.Given as goal

abbrev pub invariant-loop-index : goal.invariant-loop-index
invariant-loop-index l = MakesTest l.fn.terms l.terms l.all (λ u v. MeetAll (take l.index l.bounds) v)

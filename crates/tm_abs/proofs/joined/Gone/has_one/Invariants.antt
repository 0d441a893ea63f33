use Rattle.std.proofs.Common.{take}
use Rattle.tm_abs.specs.Inner.Atoms.{ReadsNone}
use Rattle.tm_abs.proofs.joined.Gone.has_one.Given as goal

abbrev pub invariant-loop-level : goal.invariant-loop-level
invariant-loop-level l = ReadsNone l.self.marks.items (take l.level-index l.reads)

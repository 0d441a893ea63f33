use Rattle.std.proofs.Common.{◌≡◌, length, take}
use Rattle.tm_abs.specs.Inner.Marks.{AreMarked}
use Rattle.tm_abs.proofs.marks.mark_levels.Given as goal

abbrev pub invariant-loop-level : goal.invariant-loop-level
invariant-loop-level l = record {
  count : length l.marks.items ≡ length l.fn.marks.items;
  marked : AreMarked l.allowed (take l.level-index l.levels) l.fn.marks.items l.fn.listed.items l.marks.items
      l.listed.items;
}

use Rattle.tm_blast.specs.Numbers.{level_lists}
use Rattle.tm_blast.proofs.Filling.{IsFilling}
use Rattle.tm_blast.proofs.blast.fill.Given as goal

abbrev pub invariant-loop-left : goal.invariant-loop-left
invariant-loop-left l =
    IsFilling l.terms (level_lists l.levels) l.fn.dd.table l.dd.table l.fn.made l.made l.id l.marks l.left

abbrev pub decreases-loop-left : goal.decreases-loop-left
decreases-loop-left l = l.left

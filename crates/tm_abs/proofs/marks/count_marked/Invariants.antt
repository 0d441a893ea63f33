use Rattle.std.specs.Prelude.{◌≤◌}
use Rattle.tm_abs.proofs.marks.count_marked.Given as goal

abbrev pub invariant-loop-level : goal.invariant-loop-level
invariant-loop-level l = l.count ≤ l.level-index

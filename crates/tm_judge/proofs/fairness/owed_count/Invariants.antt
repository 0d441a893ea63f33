-- The processes so far that are owed their turns.
use Rattle.std.proofs.Common.{◌≡◌, ◌≤◌, length}
use Rattle.std.specs.Prelude.{filter}
use Rattle.std.specs.List.{range_with_len}
use Rattle.tm_syntax.specs.Design.View.{design_tree}
use Rattle.tm_sem.specs.Fairness.{is_owed}
use Rattle.tm_judge.proofs.fairness.owed_count.Given as goal

abbrev pub invariant-loop-process : goal.invariant-loop-process
invariant-loop-process l = record {
  so_far : l.count ≡ length (filter (is_owed (design_tree l.design)) (range_with_len 0 l.process-index));
  few : l.count ≤ l.process-index;
}

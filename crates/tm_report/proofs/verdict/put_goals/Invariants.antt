use Rattle.std.proofs.Common.{◌≡◌, ◌++◌, ◌≤◌}
use Rattle.std.specs.Prelude.{IsTrue}
use Rattle.tm_syntax.specs.Design.View.{design_tree}
use Rattle.tm_report.specs.Report.{goal_line}
use Rattle.tm_report.proofs.Putting.{lines_below}
use Rattle.tm_report.proofs.verdict.put_goals.Given as goal

abbrev pub invariant-loop-goal : goal.invariant-loop-goal
invariant-loop-goal g l = record {
  written : IsTrue g.O.Sink.tells → g.O.Sink.written l.out
      ≡ g.O.Sink.written l.fn.out ++ lines_below (goal_line (design_tree l.design) l.ranks) l.goal;
  faults : g.O.Sink.faults l.fn.out ≤ g.O.Sink.faults l.out;
}

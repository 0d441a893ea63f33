use Rattle.std.proofs.Common.{◌≡◌, ◌++◌, ◌≤◌, take}
use Rattle.std.specs.Prelude.{IsTrue}
use Rattle.std.specs.List.{flat_map}
use Rattle.tm_syntax.specs.Design.View.{design_tree}
use Rattle.tm_report.specs.Report.{add_line}
use Rattle.tm_report.proofs.trace.put_additions.Given as goal

abbrev pub invariant-loop-added : goal.invariant-loop-added
invariant-loop-added g l = record {
  written : IsTrue g.O.Sink.tells → g.O.Sink.written l.out
      ≡ g.O.Sink.written l.fn.out ++ flat_map (add_line (design_tree l.design)) (take l.added-index l.additions);
  faults : g.O.Sink.faults l.fn.out ≤ g.O.Sink.faults l.out;
}

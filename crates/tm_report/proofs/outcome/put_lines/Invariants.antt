use Rattle.std.proofs.Common.{◌≡◌, ◌++◌, ◌≤◌, take}
use Rattle.std.specs.Prelude.{IsTrue}
use Rattle.std.specs.List.{flat_map}
use Rattle.tm_report.proofs.outcome.put_lines.Given as goal

abbrev pub invariant-loop-line : goal.invariant-loop-line
invariant-loop-line g l =
    (IsTrue g.O.Sink.tells →
    g.O.Sink.written l.out ≡ g.O.Sink.written l.fn.out ++ flat_map (λ s. s.now) (take l.line-index l.lines))
    × (g.O.Sink.faults l.fn.out ≤ g.O.Sink.faults l.out)

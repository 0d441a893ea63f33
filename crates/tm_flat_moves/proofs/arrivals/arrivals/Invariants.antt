use Rattle.std.proofs.Common.{◌≡◌}
use Rattle.tm_scope.specs.Cells.{CellTables}
use Rattle.tm_flat_stmts.specs.Flows.{AreEnds}
use Rattle.tm_flat_moves.specs.Arrived.{Arrives}
use Rattle.tm_flat_moves.proofs.arrivals.arrivals.Given as goal

abbrev pub invariant-loop-number : goal.invariant-loop-number
invariant-loop-number l =
    (x : CellTables) → AreEnds x l.fn.terms l.ends → Arrives x l.fn.terms l.terms l.width l.ends l.number l.before

-- The values so far are the first of each memory that is kept.
use Rattle.std.proofs.Common.{◌≡◌, length, take}
use Rattle.tm_scope.specs.Cells.{CellTables}
use Rattle.tm_sem.specs.Value.{Memory}
use Rattle.tm_plain_exprs.specs.Kept.{Keeps}
use Rattle.tm_plain.proofs.machine.moves.values_of.Given as goal

abbrev pub invariant-loop-number : goal.invariant-loop-number
invariant-loop-number l =
    (x : CellTables) (m : Memory) → Keeps x l.store m → length m.values ≡ l.count →
    l.values.items ≡ take l.number m.values

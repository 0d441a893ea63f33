-- The arguments so far fit.
use Rattle.std.proofs.Common.{◌≡◌, List, Some, map}
use Rattle.tm_syntax.specs.Design.{DesignTree}
use Rattle.tm_syntax.specs.Design.Cells.{Cell}
use Rattle.tm_scope.specs.Cells.{HasCells, cell_at}
use Rattle.tm_plain.proofs.Arguing.{FitSoFar, Sized}
use Rattle.tm_plain.proofs.machine.permits.arguments_fit.Given as goal

abbrev pub invariant-loop-index : goal.invariant-loop-index
invariant-loop-index l =
    (d : DesignTree) (params : List Cell) → HasCells l.reader.tables d →
    map (cell_at l.reader.tables l.reader.at) l.cells ≡ map Some params → Sized d l.reader.tables l.reader.at params →
    FitSoFar d l.reader.tables l.reader.at params l.args l.index

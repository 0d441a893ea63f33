use Rattle.tm_syntax.specs.Design.View.{design_tree}
use Rattle.tm_flat_exprs.specs.Tables.{cells_of}
use Rattle.tm_flat_moves.proofs.Parameters.{ReadSoFar}
use Rattle.tm_flat_moves.proofs.tasks.Tasks.read_all.Given as goal

abbrev pub invariant-loop-index : goal.invariant-loop-index
invariant-loop-index l =
    ReadSoFar (cells_of l.self.design.now) (design_tree l.self.design.now) l.at l.fn.terms l.index l.terms l.position
    l.fn.flow l.goes

use Rattle.std.proofs.Common.{ℕ, List}
use Rattle.tm_syntax.specs.Design.{DesignTree}
use Rattle.tm_syntax.specs.Design.Atoms.{Atom}
use Rattle.tm_syntax.specs.Design.Scope.{Scope}
use Rattle.tm_scope.specs.Cells.{HasCells}
use Rattle.tm_atoms.specs.Inner.Ranks.{IsRanked}
use Rattle.tm_atoms.specs.Inner.Bodies.{cell_design}
use Rattle.tm_atoms.specs.Inner.Walks.{IsWalking, tables_of}
use Rattle.tm_atoms.specs.Inner.Weights.{weight}
use Rattle.tm_atoms.proofs.walk.Walk.run.Given as goal

abbrev pub invariant-loop-todo : goal.invariant-loop-todo
invariant-loop-todo l =
    (d : DesignTree) → HasCells l.bodies d → (rank : Scope → ℕ) → IsRanked d rank → (all : List Atom) →
    IsWalking d rank all (tables_of l.fn.self) → IsWalking d rank all (tables_of l.self)

abbrev pub decreases-loop-todo : goal.decreases-loop-todo
decreases-loop-todo l = weight (cell_design l.bodies) (tables_of l.self)

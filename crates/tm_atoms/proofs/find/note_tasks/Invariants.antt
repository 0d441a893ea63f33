use Rattle.std.proofs.Common.{ℕ, drop}
use Rattle.std.specs.List.{flat_map}
use Rattle.tm_syntax.specs.Design.{DesignTree}
use Rattle.tm_syntax.specs.Design.Atoms.{task_atoms}
use Rattle.tm_syntax.specs.Design.Scope.{Scope}
use Rattle.tm_scope.specs.Cells.{HasCells}
use Rattle.tm_atoms.specs.Inner.Ranks.{IsRanked}
use Rattle.tm_atoms.specs.Inner.Walks.{IsIdle, tables_of}
use Rattle.tm_atoms.proofs.Listing.{AreListed}
use Rattle.tm_atoms.proofs.find.note_tasks.Given as goal

abbrev pub invariant-loop-item : goal.invariant-loop-item
invariant-loop-item l =
    (d : DesignTree) → HasCells l.bodies d → (rank : Scope → ℕ) → IsRanked d rank →
    IsIdle d (tables_of l.initial.walk) →
    AreListed d (tables_of l.initial.walk) (tables_of l.walk) (task_atoms d) (drop l.item-index l.tasks)
    (flat_map (task_atoms d) l.tasks)

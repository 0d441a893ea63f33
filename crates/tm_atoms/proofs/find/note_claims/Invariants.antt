use Rattle.std.proofs.Common.{drop}
use Rattle.std.specs.List.{flat_map}
use Rattle.tm_syntax.specs.Design.{DesignTree}
use Rattle.tm_syntax.specs.Design.Atoms.{named_atoms}
use Rattle.tm_scope.specs.Cells.{HasCells}
use Rattle.tm_atoms.specs.Inner.Bodies.{claims_of}
use Rattle.tm_atoms.specs.Inner.Walks.{IsIdle, tables_of}
use Rattle.tm_atoms.proofs.Listing.{AreListed}
use Rattle.tm_atoms.proofs.find.note_claims.Given as goal

abbrev pub invariant-loop-item : goal.invariant-loop-item
invariant-loop-item l =
    (d : DesignTree) → HasCells l.bodies d → IsIdle d (tables_of l.initial.walk) →
    AreListed d (tables_of l.initial.walk) (tables_of l.walk) (named_atoms d (claims_of l.sort))
    (drop l.item-index l.items) (flat_map (named_atoms d (claims_of l.sort)) l.items)

use Rattle.std.proofs.Common.{length}
use Rattle.tm_syntax.specs.Design.Locations.{rest}
use Rattle.tm_syntax.specs.Design.View.{design_tree}
use Rattle.tm_locations.specs.Locations.{table_of}
use Rattle.tm_plain.proofs.Chains.{steps}
use Rattle.tm_flat_moves.specs.Movable.{tables_by}
use Rattle.tm_flat_moves.proofs.Working.{RestSoFar}
use Rattle.tm_flat_moves.proofs.mover.Mover.walk_rest.Given as goal

abbrev pub invariant-nodes : goal.invariant-nodes
invariant-nodes l =
    RestSoFar (tables_by l.self) (design_tree l.self.design.now) l.self.process
    (rest (design_tree l.self.design.now) l.self.process l.place) l.fn.course l.fn.flow l.left l.course l.here

abbrev pub decreases-nodes : goal.decreases-nodes
decreases-nodes l =
    let rests = (table_of l.self.locations.now).rests in steps rests (length rests) l.left

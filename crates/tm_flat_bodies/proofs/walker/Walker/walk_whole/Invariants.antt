use Rattle.tm_design.proofs.Contexts.{some_design}
use Rattle.tm_flat_bodies.specs.Inner.Places.{row_tree, stack}
use Rattle.tm_flat_bodies.specs.Inner.Waiting.{LeadsTo, RowGoal}
use Rattle.tm_flat_bodies.specs.Inner.Weights.{weights}
use Rattle.tm_flat_bodies.specs.Tables.{known_by}
use Rattle.tm_flat_bodies.proofs.walker.Walker.walk_whole.Given as goal

-- what waits leads where the row leads
abbrev pub invariant-loop-next : goal.invariant-loop-next
invariant-loop-next l =
    LeadsTo (known_by l.self) l.start (stack l.waiting) l.course l.here
    (RowGoal (known_by l.self) l.start (row_tree l.fn.row) l.initial.course l.fn.flow)

abbrev pub decreases-loop-next : goal.decreases-loop-next
decreases-loop-next l = weights (some_design l.self.cells.now) (known_by l.self) l.start (stack l.waiting)

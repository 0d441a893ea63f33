use Rattle.std.proofs.Common.{List, []}
use Rattle.tm_syntax.specs.Design.{DesignTree}
use Rattle.tm_syntax.specs.Design.Locations.{Location}
use Rattle.tm_scope.specs.Instances.{IsOver, bare_design}
use Rattle.tm_locations.specs.Locations.{LeadsByText}
use Rattle.tm_locations.specs.Inner.Walks.{IsWalking, tables_of}
use Rattle.tm_locations.specs.Inner.Weights.{weight}
use Rattle.tm_locations.proofs.walk.Walk.run.Given as goal

abbrev pub invariant-loop-todo : goal.invariant-loop-todo
invariant-loop-todo l =
    (d : DesignTree) → IsOver l.callees d → LeadsByText d → (all : List Location) →
    IsWalking d (tables_of l.fn.self) [] all → IsWalking d (tables_of l.self) [] all

abbrev pub decreases-loop-todo : goal.decreases-loop-todo
decreases-loop-todo l = weight (bare_design l.callees) l.self.todo.items

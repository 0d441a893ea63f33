-- What is asked of a design and its tables so that the steps of its controllable tasks can be made.
use Rattle.std.specs.Prelude.{◌≡◌, ◌+◌, ◌<◌, ◌^◌, ℕ, Some, List, length}
use Rattle.std.specs.List.{AllByRecursion}
use Rattle.tm_syntax.specs.declared.design.Design.{Design}
use Rattle.tm_syntax.specs.Design.{DesignTree}
use Rattle.tm_syntax.specs.Design.Cells.{Called, Cell}
use Rattle.tm_syntax.specs.Design.View.{design_tree}
use Rattle.tm_scope.specs.Cells.{HasCells}
use Rattle.tm_typing.specs.HasType.{IsSized}
use Rattle.tm_sem.specs.Run.{asked_by}
use Rattle.tm_sem.specs.Step.{task_of}
use Rattle.tm_locations.specs.Locations.{AreLocations, LocationTable}
use Rattle.tm_locations.specs.declared.table.Locations.{Locations}
use Rattle.tm_plain.specs.Machine.{AreLocated}
use Rattle.tm_flat.specs.Fitting.{ArgumentsFit, ItemsFit}
use Rattle.tm_flat.specs.Inputs.{AreSmall, first_choice, room}
use Rattle.tm_flat_bodies.specs.Walks.{AreWalkable, WalkTables}
use Rattle.tm_flat_exprs.specs.Tables.{cells_of}
use Rattle.tm_flat_moves.specs.Calls.{call_items}

-- the tables by which the bodies of a design are walked, with the locations of a process
abbrev pub walk_by : Design → LocationTable → WalkTables
walk_by d l = record { tables = cells_of d; locations = l; first = first_choice (design_tree d) }

-- the parameters of a called task ask for types whose numbers have a width that they can have
abbrev pub AreSized : DesignTree → List Cell → Type 0
AreSized d params = AllByRecursion (λ c. IsSized (asked_by d (Some c))) params

-- the locations of the processes of a design are these; its bodies may be walked; the choices of its controllable tasks
-- fit into their bits in each design of its tables, and so do their arguments; and its numbers are small
pub record AreCallable (d : Design) (all : List Locations) : Type 0 where
  pub located : AreLocated d (length d.processes.items) all
  pub walkable : (l : LocationTable) (p : ℕ) → AreLocations l (design_tree d) p → AreWalkable (walk_by d l)
  pub sized : (n : ℕ) (c : Called) → task_of (design_tree d) n ≡ Some c → AreSized (design_tree d) c.params
  pub fits : (e : DesignTree) → HasCells (cells_of d) e → (n : ℕ) (c : Called) →
      task_of (design_tree d) n ≡ Some c → ItemsFit room e (call_items c) 0
  pub arguments : (n : ℕ) (c : Called) → task_of (design_tree d) n ≡ Some c →
      ArgumentsFit room (design_tree d) c.params 0
  pub small : AreSmall (design_tree d)
  pub few : first_choice (design_tree d) + (room + room) < 2 ^ 32

-- A design that a machine runs, and the locations of its processes.
use Rattle.std.specs.Prelude.{◌≡◌, ◌≤◌, ℕ, Some, List, length, slice_get}
use Rattle.tm_syntax.specs.declared.design.Design.{Design}
use Rattle.tm_syntax.specs.declared.member.Member.{Member}
use Rattle.tm_syntax.specs.declared.tree.Spec.{Spec}
use Rattle.tm_syntax.specs.Tree.View.{spec_tree}
use Rattle.tm_syntax.specs.Scopes.Pauses.{call_depth}
use Rattle.tm_syntax.specs.Design.View.{design_tree}
use Rattle.tm_syntax.specs.Faults.{IsOfText, IsSound}
use Rattle.tm_scope.specs.CallOrder.{CoversTasks, IsCallOrder}
use Rattle.tm_scope.specs.Cells.{ArePausing}
use Rattle.tm_locations.specs.Locations.{AreLocations, table_of}
use Rattle.tm_locations.specs.declared.table.Locations.{Locations}

-- a design that keeps its facts
pub record IsRunnable (d : Design) : Type 0 where
  pub sound : IsSound (design_tree d)
  pub read : IsOfText (spec_tree d.spec)

-- these are tables of the text of a design that keeps its facts: its names, its tasks in an order in which each stands
-- behind all that it calls, and those of them that may pause
pub record AreTables (d : Design) (spec : Spec) (order marks : List Member) : Type 0 where
  pub runnable : IsRunnable d
  pub text : spec ≡ d.spec
  pub may_pause : ArePausing (spec_tree d.spec) marks
  pub ordered : IsCallOrder (spec_tree d.spec) order
  pub covers : CoversTasks (spec_tree d.spec) order
  pub short : length order ≤ call_depth (spec_tree d.spec)

-- these are the locations of its first processes, of so many
pub record AreLocated (d : Design) (count : ℕ) (all : List Locations) : Type 0 where
  pub are : length all ≡ count
  pub each : (p : ℕ) (t : Locations) → slice_get all p ≡ Some t → AreLocations (table_of t) (design_tree d) p

-- What is asked of a design, its tables and the terms so that its steps can be made.
use Rattle.std.specs.Prelude.{◌≡◌, ◌+◌, ◌<◌, ◌^◌, ℕ, Some}
use Rattle.tm_syntax.specs.Design.{DesignTree}
use Rattle.tm_syntax.specs.Design.Locations.{end_number}
use Rattle.tm_syntax.specs.Design.View.{design_tree}
use Rattle.tm_scope.specs.Cells.{HasCells}
use Rattle.tm_scope.specs.declared.cells.site_body.SiteBody.{SiteBody}
use Rattle.tm_term.specs.Table.{Table, IsSound}
use Rattle.tm_flat.specs.BitStep.{HasRoom}
use Rattle.tm_flat.specs.Inputs.{AreSmall, first_choice, input_widths, room}
use Rattle.tm_locations.specs.Locations.{AreLocations, table_of}
use Rattle.tm_flat_bodies.specs.declared.stand.Stand.{Stand}
use Rattle.tm_flat_bodies.specs.Walks.{AreWalkable, WalkTables}
use Rattle.tm_flat_moves.specs.declared.mover.Mover.{Mover}
use Rattle.tm_flat_exprs.specs.Tables.{cells_of}

-- the tables by which the bodies of a design are walked from a process
abbrev pub tables_by : Mover → WalkTables
tables_by m = record {
  tables = cells_of m.design.now;
  locations = table_of m.locations.now;
  first = first_choice (design_tree m.design.now);
}

-- what a design has, with the locations of a process: its bodies may be walked, its choices and arguments fit into
-- their bits, and its inputs are those of the terms, by numbers that an input can have
pub record IsMovable (w : WalkTables) (d : DesignTree) (p : ℕ) (t : Table) : Type 0 where
  pub walkable : AreWalkable w
  pub cells : HasCells w.tables d
  pub are : AreLocations w.locations d p
  pub fits : HasRoom d
  pub small : AreSmall d
  pub first : w.first ≡ first_choice d
  pub few : first_choice d + (room + room) < 2 ^ 32
  pub places : end_number d p < 2 ^ 32
  pub inputs : t.inputs ≡ input_widths d
  pub sound : IsSound t

-- a body of an instance is walked so where the trail of a number has reached it
pub record IsStandAt (m : Mover) (at : SiteBody) (trail : ℕ) (s : Stand) : Type 0 where
  pub reader : s.reader ≡ record { tables = cells_of m.design.now; at = at }
  pub depth : s.depth ≡ m.depth
  pub reached : s.trail ≡ Some trail

-- Parameters and locals that live for one step, by their bodies and numbers.
use Rattle.std.specs.Prelude.{◌≡◌, Bool, false, Some, ◌&&◌, nat_eq}
use Rattle.tm_syntax.specs.Scopes.Context.{Slot}
use Rattle.tm_syntax.specs.Design.Scope.{same_scope}
use Rattle.tm_scope.specs.Cells.{CellTables, scope_of, slot_in}
use Rattle.tm_scope.specs.declared.cells.site_body.SiteBody.{SiteBody}
use Rattle.tm_scope.specs.declared.members.SlotNumber.{SlotNumber}
use Rattle.tm_scope.specs.declared.members.SlotNumber.TheVariants.{Param, Local}
use Rattle.tm_design.specs.declared.step_cells.StepCell.{StepCell}

-- whether two numbers of parameters or locals are one
abbrev pub same_slot : SlotNumber → SlotNumber → Bool
same_slot (Param a) (Param b) = nat_eq a b
same_slot (Local a) (Local b) = nat_eq a b
same_slot _ _ = false

-- whether two parameters or locals that live for one step are one
abbrev pub same_cell : StepCell → StepCell → Bool
same_cell a b = same_scope (scope_of a.at) (scope_of b.at) && same_slot a.slot b.slot

-- the parameters and locals of each body have names of their own
pub record AreApart (x : CellTables) : Type 0 where
  pub slots : (at : SiteBody) (a b : SlotNumber) (r s : Slot) → slot_in x at a ≡ Some r → slot_in x at b ≡ Some s →
      r.name ≡ s.name → a ≡ b

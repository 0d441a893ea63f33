-- Where the values of a design are, by numbers.
use Rattle.std.specs.Prelude.{◌≡◌, IfSome, Option, Some, List, map, slice_get}
use Rattle.std.specs.Option.{option_map, option_and_then}
use Rattle.tm_syntax.specs.declared.design.Instance.{Instance}
use Rattle.tm_syntax.specs.declared.design.Var.{Var}
use Rattle.tm_syntax.specs.declared.tree.Spec.{Spec}
use Rattle.tm_syntax.specs.Tree.{SpecTree}
use Rattle.tm_syntax.specs.Tree.View.{spec_tree}
use Rattle.tm_syntax.specs.Scopes.Context.{Frame, Slot, frame_of}
use Rattle.tm_syntax.specs.Design.{DesignTree, instance_node}
use Rattle.tm_syntax.specs.Design.Cells.{Cell, in_state, in_step}
use Rattle.tm_syntax.specs.Design.Scope.{Scope, site}
use Rattle.tm_scope.specs.Context.{body_name}
use Rattle.tm_scope.specs.Inner.Tables.{BodySlots}
use Rattle.tm_scope.specs.Marks.{is_in, pauses_at}
use Rattle.tm_scope.specs.Members.{body_slots, numbered_slot}
use Rattle.tm_scope.specs.declared.cells.site_body.SiteBody.{SiteBody}
use Rattle.tm_scope.specs.declared.cells.site_body.CellNumber.{CellNumber}
use Rattle.tm_scope.specs.declared.cells.site_body.CellNumber.TheVariants.{State, Step}
use Rattle.tm_syntax.specs.declared.member.Member.{Member}
use Rattle.tm_scope.specs.declared.members.SlotNumber.{SlotNumber}

-- these are the tasks of a text that may pause
abbrev pub ArePausing : SpecTree → List Member → Type 0
ArePausing spec tasks = (m : Member) → is_in tasks m ≡ pauses_at spec m

-- a specification, instances of its templates, and state variables
pub record CellTables : Type 0 where
  pub spec : Spec
  pub instances : List Instance
  pub vars : List Var

-- a design has this text, these instances and these state variables
pub record HasCells (x : CellTables) (d : DesignTree) : Type 0 where
  pub text : d.spec ≡ spec_tree x.spec
  pub instances : d.instances ≡ map instance_node x.instances
  pub vars : d.vars ≡ x.vars

-- the scope of a body of an instance
abbrev pub scope_of : SiteBody → Scope
scope_of at = record { instance = at.instance; body = body_name at.body }

-- the parameters and locals of a body of an instance
abbrev pub slots_in : CellTables → SiteBody → Option BodySlots
slots_in x at =
    option_and_then (λ (i : Instance). option_and_then (λ t. body_slots t at.body)
    (slice_get x.spec.templates.items i.template)) (slice_get x.instances at.instance)

-- the parameter or local of a number in a body of an instance
abbrev pub slot_in : CellTables → SiteBody → SlotNumber → Option Slot
slot_in x at slot = option_and_then (λ body. numbered_slot body slot) (slots_in x at)

-- the cell of a number, as a body of an instance sees it
abbrev pub cell_at : CellTables → SiteBody → CellNumber → Option Cell
cell_at x at (State k) = Some (in_state k)
cell_at x at (Step slot) = option_map (λ (s : Slot). in_step (scope_of at) s.name s.ty) (slot_in x at slot)

-- a number that is found is that of a cell
abbrev pub IsCellNumber : CellTables → SiteBody → Option CellNumber → Type 0
IsCellNumber x at found = IfSome found (λ n. (c : Cell) × (cell_at x at n ≡ Some c))

-- a body of an instance, with its name, its parameters and locals, and whether these are kept in the state
abbrev pub frame_in : DesignTree → SiteBody → Option Frame
frame_in d at = option_and_then (λ s. frame_of d.spec s.template (body_name at.body)) (site d at.instance)

-- a body of an instance, with the tables of the design
pub record ScopedCells : Type 0 where
  pub tables : CellTables
  pub at : SiteBody

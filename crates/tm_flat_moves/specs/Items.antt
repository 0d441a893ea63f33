-- Work items that are led through one after the other.
use Rattle.std.specs.Prelude.{◌≡◌, ℕ, Option, Some, List, [], ◌∷◌}
use Rattle.std.specs.List.{AllByRecursion}
use Rattle.std.specs.Option.{option_and_then}
use Rattle.tm_base.specs.declared.place.Place.{Place}
use Rattle.tm_syntax.specs.Tree.{StmtTree, row_of}
use Rattle.tm_syntax.specs.Scopes.Context.{Context}
use Rattle.tm_syntax.specs.Scopes.Pauses.{call_depth}
use Rattle.tm_syntax.specs.Design.{DesignTree}
use Rattle.tm_syntax.specs.Design.Locations.{location_number}
use Rattle.tm_syntax.specs.Design.Scope.{Scope}
use Rattle.tm_syntax.specs.Design.Work.{WorkItem, perform, deliver}
use Rattle.tm_scope.specs.Cells.{CellTables, HasCells, scope_of}
use Rattle.tm_scope.specs.declared.cells.site_body.SiteBody.{SiteBody}
use Rattle.tm_design.specs.Typed.{context_at}
use Rattle.tm_locations.specs.Locations.{AreLocations, IsTrail, work_stmts}
use Rattle.tm_locations.specs.declared.table.RestNode.{RestNode}
use Rattle.tm_flat.specs.BitRun.{items_ending, reader, row_ending}
use Rattle.tm_flat.specs.Fitting.{BodyFits, ItemsFit, RowFits}
use Rattle.tm_flat.specs.Inputs.{room}
use Rattle.tm_flat.specs.Positions.{body_after, item_after, row_after}
use Rattle.tm_flat.specs.Writes.{body_writes, items_write, row_writes}
use Rattle.tm_flat_stmts.specs.Flows.{FlowTerms, LeadsOn}
use Rattle.tm_flat_stmts.specs.Choices.{choice_bit}
use Rattle.tm_flat_bodies.specs.declared.course.Course.{Course}
use Rattle.tm_flat_bodies.specs.Asked.{StmtIsTyped}
use Rattle.tm_flat_bodies.specs.Walks.{AreWalkable, InEach, IsStanding, WalkTables}

-- the position behind work items
abbrev pub items_after : DesignTree → List WorkItem → ℕ → Option ℕ
items_after d [] k = Some k
items_after d (first ∷ others) k = option_and_then (λ i. items_after d others i) (item_after d first k)

-- a statement of a body of an instance has its types
pub record StmtStands (x : CellTables) (at : SiteBody) (s : StmtTree) : Type 0 where
  pub place : Context
  pub stands : context_at (record { tables = x; at = at }) ≡ Some place
  pub typed : StmtIsTyped (record { tables = x; at = at }) s

-- a work item is such a statement
abbrev pub ItemIsTyped : CellTables → WorkItem → Type 0
ItemIsTyped x (perform scope trail s) = (at : SiteBody) → scope_of at ≡ scope → StmtStands x at s
ItemIsTyped x (deliver target scope e) = ⊥

-- so are all items
abbrev pub ItemsAreTyped : CellTables → List WorkItem → Type 0
ItemsAreTyped x items = AllByRecursion (ItemIsTyped x) items

-- work items lead on, in a design, from where a run stands; what stops does so at a location of a process
abbrev pub ItemsLead : WalkTables → DesignTree → ℕ → List WorkItem → Course → Course → FlowTerms → Option FlowTerms →
    Type 0
ItemsLead w d p items from now flow g =
    LeadsOn w.tables (λ at calls. Some (location_number d p at calls))
    (λ v. items_ending d (choice_bit w.first v) items flow.position) (items_after d items flow.position)
    (λ i. items_write d i items flow.position) from.terms now.terms (Some flow) from.ends g now.ends

-- so do statements of a body that a trail has reached
abbrev pub StmtsLead : WalkTables → DesignTree → ℕ → Scope → List Place → List StmtTree → Course → Course →
    FlowTerms → Option FlowTerms → Type 0
StmtsLead w d p scope trail ss from now flow g =
    LeadsOn w.tables (λ at calls. Some (location_number d p at calls))
    (λ v. row_ending (reader d (choice_bit w.first v)) scope trail (row_of ss) flow.position)
    (row_after (body_after (call_depth d.spec) d) d scope (row_of ss) flow.position)
    (λ i. row_writes (body_after (call_depth d.spec) d) (body_writes (call_depth d.spec) d i) d scope i (row_of ss)
    flow.position) from.terms now.terms (Some flow) from.ends g now.ends

-- what the tables ask of the work of a process: it is of statements of bodies that have types, and its choices have
-- bits
pub record MayBeWalked (w : WalkTables) (items : List WorkItem) : Type 0 where
  pub typed : ItemsAreTyped w.tables items
  pub fits : InEach w (λ e. ItemsFit room e items 0)

-- so it is of work items where a run stands
pub record ItemsWalk (w : WalkTables) (d : DesignTree) (p : ℕ) (items : List WorkItem) (now : Course)
    (flow : FlowTerms) : Type 0 where
  pub walkable : AreWalkable w
  pub cells : HasCells w.tables d
  pub are : AreLocations w.locations d p
  pub typed : ItemsAreTyped w.tables items
  pub fits : InEach w (λ e. ItemsFit room e items flow.position)
  pub standing : IsStanding w now flow

-- so it is of the work of a node
pub record WorkWalks (w : WalkTables) (d : DesignTree) (p : ℕ) (node : RestNode) (now : Course) (flow : FlowTerms) :
    Type 0 where
  pub walkable : AreWalkable w
  pub cells : HasCells w.tables d
  pub are : AreLocations w.locations d p
  pub trail : List Place
  pub reached : IsTrail w.locations.trails node.trail trail
  pub typed : AllByRecursion (StmtStands w.tables node.scope) (work_stmts node.work)
  pub fits : InEach w (λ e.
      RowFits room (body_after (call_depth e.spec) e) (BodyFits room (call_depth e.spec) e) e (scope_of node.scope)
      (row_of (work_stmts node.work)) flow.position)
  pub standing : IsStanding w now flow

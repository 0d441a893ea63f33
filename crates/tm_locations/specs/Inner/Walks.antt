-- What a walk of locations has found, and what it still owes.
use Rattle.std.specs.Prelude.{◌≡◌, ℕ, ◌≤◌, List, [], ◌∷◌, ◌++◌, map}
use Rattle.std.specs.Option.{option_map_or}
use Rattle.std.specs.List.{AllZip}
use Rattle.tm_base.specs.declared.place.Place.{Place}
use Rattle.tm_syntax.specs.declared.tree.Ident.{Ident}
use Rattle.tm_syntax.specs.Tree.{BodyTree, row_of, alternatives_of}
use Rattle.tm_syntax.specs.Tree.View.{stmt_trees}
use Rattle.tm_syntax.specs.Design.{DesignTree}
use Rattle.tm_syntax.specs.Design.Cells.{called}
use Rattle.tm_syntax.specs.Design.Locations.{Location, row_locations, block_locations, body_locations}
use Rattle.tm_syntax.specs.Design.Scope.{Scope}
use Rattle.tm_syntax.specs.Design.Work.{WorkItem, call_place}
use Rattle.tm_syntax.specs.Scopes.Pauses.{call_depth}
use Rattle.tm_scope.specs.Cells.{scope_of}
use Rattle.tm_locations.specs.Locations.{IsRest, IsRow, IsTrail}
use Rattle.tm_locations.specs.declared.table.LocationRow.{LocationRow}
use Rattle.tm_locations.specs.declared.table.RestNode.{RestNode}
use Rattle.tm_locations.specs.declared.table.TrailNode.{TrailNode}
use Rattle.tm_locations.specs.declared.walk.Frame.{Frame}
use Rattle.tm_locations.specs.declared.walk.Row.{Row}
use Rattle.tm_locations.specs.declared.walk.Row.TheVariants.{Stmts, Blocks}
use Rattle.tm_locations.specs.declared.walk.Todo.{Todo}
use Rattle.tm_locations.specs.declared.walk.Walk.{Walk}

-- the tables of a walk, with what is still to be walked, the next one last
pub record WalkTables : Type 0 where
  pub rows : List LocationRow
  pub rests : List RestNode
  pub trails : List TrailNode
  pub todo : List Todo

-- the tables of a walk, as lists
abbrev pub tables_of : Walk → WalkTables
tables_of w = record { rows = w.rows.items; rests = w.rests.items; trails = w.trails.keys; todo = w.todo.items }

-- tables that have grown: each number means what it meant, and the rows and what is to be walked are the same
pub record IsGrown (old new : WalkTables) : Type 0 where
  pub rows : new.rows ≡ old.rows
  pub todo : new.todo ≡ old.todo
  pub trails : (k : ℕ) (trail : List Place) → IsTrail old.trails k trail → IsTrail new.trails k trail
  pub rests : (k : ℕ) (items : List WorkItem) → IsRest old.trails old.rests k items →
      IsRest new.trails new.rests k items

-- what is seen of a body that is called: its scope, and the body
abbrev pub seen : Scope → BodyTree → Scope × BodyTree
seen scope body = (scope, body)

-- the locations of what a path calls, where calls nest at most so deep
abbrev pub call_locations : ℕ → DesignTree → Scope → List Place → List Ident → List WorkItem → List Location
call_locations depth d scope trail names left =
    option_map_or (λ callee. body_locations depth d callee.scope (call_place names ++ trail) callee.body left)
    (called d scope names) []

-- the locations of statements or blocks
abbrev pub part_locations : DesignTree → Frame → Row → List Place → List WorkItem → List Location
part_locations d frame (Stmts ss) trail after =
    row_locations (call_locations frame.depth d (scope_of frame.scope) trail) (scope_of frame.scope) trail
    (row_of (stmt_trees ss.now)) after
part_locations d frame (Blocks bs) trail after =
    block_locations (call_locations frame.depth d (scope_of frame.scope) trail) (scope_of frame.scope) trail
    (alternatives_of (map (λ b. row_of (stmt_trees b.items)) bs.now)) after

-- the locations that are still owed for statements or blocks
pub record IsTodo (d : DesignTree) (trails : List TrailNode) (rests : List RestNode) (t : Todo)
    (locations : List Location) : Type 0
  where
    pub trail : List Place
    pub items : List WorkItem
    pub is_trail : IsTrail trails t.frame.trail trail
    pub is_rest : IsRest trails rests t.after items
    pub deep : t.frame.depth ≤ call_depth d.spec
    pub are : locations ≡ part_locations d t.frame t.row trail items

-- the locations that are still owed, the last of what is to be walked first
abbrev pub Owed : DesignTree → List TrailNode → List RestNode → List Todo → List Location → Type 0
Owed d trails rests [] left = left ≡ []
Owed d trails rests (t ∷ ts) left =
    (front : List Location) × (last : List Location) × (left ≡ front ++ last) × IsTodo d trails rests t last
    × Owed d trails rests ts front

-- some locations, of which the first are found, the next are to be these, and the others are owed
pub record IsWalking (d : DesignTree) (w : WalkTables) (next all : List Location) : Type 0 where
  pub found : List Location
  pub left : List Location
  pub are : all ≡ found ++ (next ++ left)
  pub rows : AllZip (IsRow w.trails w.rests) w.rows found
  pub owed : Owed d w.trails w.rests w.todo left

-- what one part of a body adds to a walk: where its locations are to come next, they are found or owed in their place
abbrev pub Settles : DesignTree → WalkTables → WalkTables → Frame → ℕ → (List Place → List WorkItem → List Location) →
    Type 0
Settles d old new frame after locations =
    (trail : List Place) → (items : List WorkItem) → (all : List Location) →
    IsTrail old.trails frame.trail trail → IsRest old.trails old.rests after items →
    frame.depth ≤ call_depth d.spec → IsWalking d old (locations trail items) all → IsWalking d new [] all

-- the work that a number stands for, by what stands behind it
abbrev pub IsWork : WalkTables → WalkTables → Frame → ℕ → ℕ → (List Place → List WorkItem → List WorkItem) → Type 0
IsWork old new frame then number work =
    (trail : List Place) → (items : List WorkItem) → IsTrail old.trails frame.trail trail →
    IsRest old.trails old.rests then items → IsRest new.trails new.rests number (work trail items)

-- What a table of locations means. Number 0 of a list of nodes is none, and number k + 1 is node k.
use Rattle.std.specs.Prelude.{◌≡◌, ℕ, zero, suc, Bool, ◌&&◌, Option, None, Some, List, [], ◌∷◌, ◌++◌, map, nat_eq, position, slice_get}
use Rattle.std.specs.List.{AllZip}
use Rattle.std.specs.Option.{option_map}
use Rattle.tm_base.specs.declared.place.Place.{Place}
use Rattle.tm_syntax.specs.declared.tree.Ident.{Ident}
use Rattle.tm_syntax.specs.Tree.{StmtTree, assign, assume}
use Rattle.tm_syntax.specs.Tree.View.{expr_tree, local_tree, stmt_trees}
use Rattle.tm_syntax.specs.Scopes.Names.{template_along}
use Rattle.tm_syntax.specs.Design.{DesignTree}
use Rattle.tm_syntax.specs.Design.Locations.{Location, locations, rest, same_place}
use Rattle.tm_syntax.specs.Design.Scope.{Site, site, site_along}
use Rattle.tm_syntax.specs.Design.Work.{WorkItem, perform}
use Rattle.tm_scope.specs.Cells.{scope_of}
use Rattle.tm_locations.specs.declared.table.LocationRow.{LocationRow}
use Rattle.tm_locations.specs.declared.table.Locations.{Locations}
use Rattle.tm_locations.specs.declared.table.RestNode.{RestNode}
use Rattle.tm_locations.specs.declared.table.TrailNode.{TrailNode}
use Rattle.tm_locations.specs.declared.table.Work.{Work}
use Rattle.tm_locations.specs.declared.table.Work.TheVariants.{Locals, Stmts, Assume}

-- every path leads to an instance of the template to which it leads in the text
abbrev pub LeadsByText : DesignTree → Type 0
LeadsByText d =
    (n : ℕ) (s : Site) (path : List Ident) → site d n ≡ Some s →
    option_map (λ (t : Site). t.template) (site_along d s path) ≡ template_along d.spec s.template path

-- the node of a number, if it is one
abbrev pub numbered_node : {X : Type 0} → List X → ℕ → Option X
numbered_node nodes zero = None
numbered_node nodes (suc k) = slice_get nodes k

-- the statements that work is
abbrev pub work_stmts : Work → List StmtTree
work_stmts (Locals ls) = map (λ l. assign (l.name ∷ []) None l.value) (map local_tree ls.now)
work_stmts (Stmts ss) = stmt_trees ss.now
work_stmts (Assume at e) = assume at (expr_tree e.now) ∷ []

-- whether two nodes of trails are one
abbrev pub same_node : TrailNode → TrailNode → Bool
same_node a b = same_place a.at b.at && nat_eq a.then b.then

-- a number stands for a trail of calls: for a call at the place of its node, the first of this kind, before a trail
pub data IsTrail (trails : List TrailNode) : ℕ → List Place → Type 0 where
  no_call : IsTrail trails 0 []
  call_behind : {k : ℕ} {n : TrailNode} {trail : List Place} →
      position (same_node n) trails ≡ Some k → IsTrail trails n.then trail → IsTrail trails (suc k) (n.at ∷ trail)

-- a number stands for what is left to be done
pub data IsRest (trails : List TrailNode) (rests : List RestNode) : ℕ → List WorkItem → Type 0 where
  nothing_left : IsRest trails rests 0 []
  work_before : {k : ℕ} {n : RestNode} {trail : List Place} {items : List WorkItem} →
      slice_get rests k ≡ Some n → IsTrail trails n.trail trail → IsRest trails rests n.then items →
      IsRest trails rests (suc k) (map (perform (scope_of n.scope) trail) (work_stmts n.work) ++ items)

-- a row stands for a location
pub record IsRow (trails : List TrailNode) (rests : List RestNode) (row : LocationRow) (l : Location) : Type 0 where
  pub at : l.at ≡ row.at
  pub is_magic : l.is_magic ≡ row.is_magic
  pub trail : IsTrail trails row.trail l.trail
  pub rest : IsRest trails rests row.rest l.rest

-- a table of locations: a row for each in order, nodes of what is left to be done and of trails, and the number of what
-- is left at the start
pub record LocationTable : Type 0 where
  pub rows : List LocationRow
  pub rests : List RestNode
  pub trails : List TrailNode
  pub start : ℕ

-- a table, as lists
abbrev pub table_of : Locations → LocationTable
table_of t = record { rows = t.rows.items; rests = t.rests.items; trails = t.trails.keys; start = t.start }

-- a table has the locations of a process of a design, each with what is left after it, and what is left at its start
pub record AreLocations (t : LocationTable) (d : DesignTree) (p : ℕ) : Type 0 where
  pub rows : AllZip (IsRow t.trails t.rests) t.rows (locations d p)
  pub start : IsRest t.trails t.rests t.start (rest d p 0)

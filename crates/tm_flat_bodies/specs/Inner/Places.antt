-- Where what waits of a walk stands.
use Rattle.std.specs.Prelude.{◌≡◌, ⊤, List, map, reverse}
use Rattle.tm_syntax.specs.declared.tree.Ident.{Ident}
use Rattle.tm_syntax.specs.declared.tree.TaskDef.{TaskDef}
use Rattle.tm_syntax.specs.Tree.{StmtRow, row_of}
use Rattle.tm_syntax.specs.Tree.View.{body_tree, local_tree, stmt_trees}
use Rattle.tm_syntax.specs.Scopes.Parts.{body_stmts}
use Rattle.tm_scope.specs.declared.cells.site_body.SiteBody.{SiteBody}
use Rattle.tm_flat_bodies.specs.declared.stand.Stand.{Stand}
use Rattle.tm_flat_bodies.specs.declared.waiting.Home.{Home}
use Rattle.tm_flat_bodies.specs.declared.waiting.Row.{Row}
use Rattle.tm_flat_bodies.specs.declared.waiting.Row.TheVariants as rows
use Rattle.tm_flat_bodies.specs.declared.waiting.Spot.{Spot}
use Rattle.tm_flat_bodies.specs.declared.waiting.Spot.TheVariants as spots
use Rattle.tm_flat_bodies.specs.declared.waiting.Todo.{Todo}
use Rattle.tm_flat_bodies.specs.declared.waiting.Waiting.{Waiting}
use Rattle.tm_design.specs.Callees.{IsCallee}
use Rattle.tm_flat_bodies.specs.Inner.Passing.{local_stmts}
use Rattle.tm_flat_bodies.specs.Walks.{WalkTables}

-- what waits, the next thing first
abbrev pub stack : Waiting → List Todo
stack w = reverse w.todo.items

-- the statements of a row
abbrev pub row_tree : Row → StmtRow
row_tree (rows.Body body) = row_of (body_stmts (body_tree body.now))
row_tree (rows.Locals locals) = row_of (local_stmts (map local_tree locals.now))
row_tree (rows.Stmts stmts) = row_of (stmt_trees stmts.now)

-- a called body, by the tables of the walk
abbrev pub stand_of : WalkTables → Home → Stand
stand_of w home = record {
  reader = record { tables = w.tables; at = home.at };
  depth = home.depth;
  trail = home.trail;
}

-- where a spot is, in a walk that began in a body
abbrev pub stand_at : WalkTables → Stand → Spot → Stand
stand_at w start spots.Start = start
stand_at w start (spots.Called home) = stand_of w home

-- a body is called by some path, so its instance is there
pub record IsHome (w : WalkTables) (home : Home) : Type 0 where
  pub from : SiteBody
  pub names : List Ident
  pub task : TaskDef
  pub is : IsCallee w.tables from names home.at task

-- a spot is there
abbrev pub IsThere : WalkTables → Spot → Type 0
IsThere w spots.Start = ⊤
IsThere w (spots.Called home) = IsHome w home

-- a body is that of a spot
pub record IsAt (w : WalkTables) (start : Stand) (spot : Spot) (f : Stand) : Type 0 where
  pub there : IsThere w spot
  pub is : stand_at w start spot ≡ f

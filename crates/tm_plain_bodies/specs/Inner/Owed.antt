-- What is left to be done of a run.
use Rattle.std.specs.Prelude.{◌≡◌, ⊤, Option, Some, List, [], ◌∷◌, ◌++◌, map, reverse}
use Rattle.std.specs.Option.{option_and_then, option_to_list}
use Rattle.tm_base.specs.declared.place.Place.{Place}
use Rattle.tm_syntax.specs.declared.design.Design.{Design}
use Rattle.tm_syntax.specs.declared.tree.Ident.{Ident}
use Rattle.tm_syntax.specs.declared.tree.TaskDef.{TaskDef}
use Rattle.tm_syntax.specs.declared.tree.TaskKind.TheVariants.{Procedure}
use Rattle.tm_syntax.specs.declared.tree.TypeName.{TypeName}
use Rattle.tm_syntax.specs.Tree.{ExprTree, StmtTree}
use Rattle.tm_syntax.specs.Tree.View.{body_tree, local_tree, stmt_tree, stmt_trees}
use Rattle.tm_syntax.specs.Scopes.Context.{Context}
use Rattle.tm_syntax.specs.Scopes.Names.{type_of}
use Rattle.tm_syntax.specs.Design.{DesignTree}
use Rattle.tm_syntax.specs.Design.Cells.{Cell}
use Rattle.tm_syntax.specs.Design.Work.{WorkItem, call_place, deliver, perform}
use Rattle.tm_scope.specs.Cells.{CellTables, IsCellNumber, cell_at, scope_of}
use Rattle.tm_scope.specs.declared.cells.site_body.CellNumber.{CellNumber}
use Rattle.tm_scope.specs.declared.cells.site_body.SiteBody.{SiteBody}
use Rattle.tm_sem.specs.Run.{asked_by}
use Rattle.tm_design.specs.Typed.{HasTypeAt, context_at}
use Rattle.tm_plain_bodies.specs.declared.frame.Frame.{Frame}
use Rattle.tm_plain_bodies.specs.declared.todo.Level.{Level}
use Rattle.tm_plain_bodies.specs.declared.todo.Todo.{Todo}
use Rattle.tm_plain_bodies.specs.declared.todo.Todo.TheVariants as todo
use Rattle.tm_plain_bodies.specs.Frames.{RowFits, StmtFits, local_stmts}
use Rattle.tm_plain_bodies.specs.Runs.{RowMayPass, StmtMayPass}
use Rattle.tm_plain_bodies.specs.Tables.{body_of, tables_of}

-- what is owed: a statement, a row, a loop behind its body, the end of the call of a path, or what a call returns
pub data Owed : Type 0 where
  one : Level → StmtTree → Owed
  row : Level → List StmtTree → Owed
  again : Level → StmtTree → Owed
  leave : List Ident → Owed
  answer : Level → SiteBody → TaskDef → Option CellNumber → Owed

-- what is owed for what is to be done
abbrev pub seen : Todo → Owed
seen (todo.Stmts level ss) = row level (stmt_trees ss.now)
seen (todo.Locals level ls) = row level (local_stmts (map local_tree ls.now))
seen (todo.Again level s) = again level (stmt_tree s.now)
seen (todo.Leave path) = leave path.now
seen (todo.Answer a) = answer a.level a.outer a.task.now a.cell

-- what is owed for a stack, the top of which is its last item, the next first
abbrev pub owed : List Todo → List Owed
owed todo = map seen (reverse todo)

-- where the statements of a frame are done
abbrev pub level_of : Frame → Level
level_of f = record { at = f.reader.at; depth = f.depth }

-- the frame of a body of an instance of a design
abbrev pub frame_of : Design → Level → Frame
frame_of d level = record { reader = body_of d level.at; depth = level.depth }

-- the calls that have led to where the next is done, behind which others led to where the last is
abbrev pub trail_of : List Place → List Owed → List Place
trail_of base [] = base
trail_of base (one _ _ ∷ ts) = trail_of base ts
trail_of base (row _ _ ∷ ts) = trail_of base ts
trail_of base (again _ _ ∷ ts) = trail_of base ts
trail_of base (leave path ∷ ts) = call_place path ++ trail_of base ts
trail_of base (answer _ _ _ _ ∷ ts) = trail_of base ts

-- the items that are owed for one, which a trail of calls has reached
abbrev pub part_work : CellTables → List Place → Owed → List WorkItem
part_work x trail (one level s) = perform (scope_of level.at) trail s ∷ []
part_work x trail (row level ss) = map (perform (scope_of level.at) trail) ss
part_work x trail (again level s) = perform (scope_of level.at) trail s ∷ []
part_work x trail (leave path) = []
part_work x trail (answer level outer task cell) =
    map (deliver (option_and_then (cell_at x outer) cell) (scope_of level.at))
    (option_to_list (body_tree task.body).answer)

-- the items that are owed for all
abbrev pub work_of : CellTables → List Place → List Owed → List WorkItem
work_of x base [] = []
work_of x base (t ∷ ts) = part_work x (trail_of base ts) t ++ work_of x base ts

-- a body of an instance is there, where a text stands
abbrev pub IsThere : Design → SiteBody → Type 0
IsThere d at = (c : Context) × (context_at (body_of d at) ≡ Some c)

-- what a procedure returns may be put into a cell of a body
pub record AnswerFits (d : Design) (level : Level) (outer : SiteBody) (task : TaskDef) (cell : Option CellNumber) :
    Type 0 where
  pub inside : IsThere d level.at
  pub outside : IsThere d outer
  pub ty : TypeName
  pub kind : task.kind ≡ Procedure (Some ty)
  pub cell_there : IsCellNumber (tables_of d) outer cell
  pub typed : (ty : TypeName) (e : ExprTree) → task.kind ≡ Procedure (Some ty) →
      (body_tree task.body).answer ≡ Some e → HasTypeAt (body_of d level.at) (type_of ty) e

-- what is owed may be done
abbrev pub Fits : Design → Owed → Type 0
Fits d (one level s) = StmtFits d (frame_of d level) s
Fits d (row level ss) = RowFits d (frame_of d level) ss
Fits d (again level s) = ⊤
Fits d (leave path) = ⊤
Fits d (answer level outer task cell) = AnswerFits d level outer task cell

-- in a design the cell that gets what a procedure returns has the type of what it returns
abbrev pub IsAskedFor : DesignTree → CellTables → Owed → Type 0
IsAskedFor d x (one _ _) = ⊤
IsAskedFor d x (row _ _) = ⊤
IsAskedFor d x (again _ _) = ⊤
IsAskedFor d x (leave _) = ⊤
IsAskedFor d x (answer level outer task cell) =
    (ty : TypeName) (c : Cell) → task.kind ≡ Procedure (Some ty) → option_and_then (cell_at x outer) cell ≡ Some c →
    asked_by d (Some c) ≡ type_of ty

-- a run may come to the end of a loop's body: all that stands above it is not sure to cross a location
abbrev pub Comes : Design → List Owed → Type 0
Comes d [] = ⊥
Comes d (one level s ∷ ts) = StmtMayPass (body_of d level.at) s × Comes d ts
Comes d (row level ss ∷ ts) = RowMayPass (body_of d level.at) ss × Comes d ts
Comes d (again _ _ ∷ ts) = ⊤
Comes d (leave _ ∷ ts) = Comes d ts
Comes d (answer _ _ _ _ ∷ ts) = Comes d ts

-- statements are owed
abbrev pub IsRow : Owed → Type 0
IsRow (one _ _) = ⊥
IsRow (row _ _) = ⊤
IsRow (again _ _) = ⊥
IsRow (leave _) = ⊥
IsRow (answer _ _ _ _) = ⊥

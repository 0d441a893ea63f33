-- What may be done in a body of an instance, and what a call of it keeps.
use Rattle.std.specs.Prelude.{◌≡◌, ℕ, suc, false, None, Some, List, [], ◌∷◌, map}
use Rattle.std.specs.List.{AllByRecursion, AllZip}
use Rattle.tm_syntax.specs.declared.design.Design.{Design}
use Rattle.tm_syntax.specs.declared.tree.Ident.{Ident}
use Rattle.tm_syntax.specs.declared.tree.Param.{Param}
use Rattle.tm_syntax.specs.declared.tree.TypeName.{TypeName}
use Rattle.tm_syntax.specs.declared.tree.TaskKind.TheVariants.{Procedure}
use Rattle.tm_syntax.specs.Tree.{BodyTree, ExprTree, LocalTree, StmtRow, StmtTree, alternatives_of, assign, row_of}
use Rattle.tm_syntax.specs.Tree.View.{body_tree, task_tree}
use Rattle.tm_syntax.specs.Scopes.Calls.{body_calls}
use Rattle.tm_syntax.specs.Scopes.Context.{Context}
use Rattle.tm_syntax.specs.Scopes.Crossing.{body_crosses, call_crosses}
use Rattle.tm_syntax.specs.Scopes.Names.{type_of}
use Rattle.tm_syntax.specs.Scopes.Parts.{stmts_in}
use Rattle.tm_syntax.specs.Scopes.Pauses.{call_depth, task_reached}
use Rattle.tm_syntax.specs.Design.View.{design_tree}
use Rattle.tm_scope.specs.Cells.{ScopedCells, scope_of}
use Rattle.tm_scope.specs.declared.cells.site_body.SiteBody.{SiteBody}
use Rattle.tm_scope.specs.Inner.Calls.{block_calls, row_calls, stmt_calls}
use Rattle.tm_typing.specs.Statements.{HasCallee}
use Rattle.tm_design.specs.Typed.{HasTypeAt, context_at}
use Rattle.tm_plain_bodies.specs.declared.frame.Frame.{Frame}
use Rattle.tm_plain_bodies.specs.declared.frame.CalledTask.{CalledTask}
use Rattle.tm_design.specs.Callees.{IsCallee}
use Rattle.tm_plain_bodies.specs.Calls.{NestsWithin}
use Rattle.tm_plain_bodies.specs.Tables.{body_of, tables_of}
use Rattle.tm_states.specs.Promised.{IsPromised}
use Rattle.tm_plain_bodies.specs.Runs.{BlocksAt, RowAt, StmtAt}

-- a statement of a design that may be done: the text promises of it what it has to, and its calls nest no deeper than
-- the frame lets them
pub record StmtFits (d : Design) (f : Frame) (s : StmtTree) : Type 0 where
  pub tables : f.reader.tables ≡ tables_of d
  pub promised : StmtAt f.reader s
  pub nested : NestsWithin f.depth (design_tree d) (scope_of f.reader.at) (stmt_calls s)

-- the statements of a row of a design that may be done: the text promises of them what it has to, and their calls nest
-- no deeper than the frame lets them
pub record RowFits (d : Design) (f : Frame) (ss : List StmtTree) : Type 0 where
  pub tables : f.reader.tables ≡ tables_of d
  pub promised : RowAt f.reader ss
  pub nested : NestsWithin f.depth (design_tree d) (scope_of f.reader.at) (row_calls (row_of ss))

-- blocks of a design that may be done: the text promises of them what it has to, and their calls nest no deeper than
-- the frame lets them
pub record BlocksFit (d : Design) (f : Frame) (bs : List StmtRow) : Type 0 where
  pub tables : f.reader.tables ≡ tables_of d
  pub promised : BlocksAt f.reader bs
  pub nested : NestsWithin f.depth (design_tree d) (scope_of f.reader.at) (block_calls (alternatives_of bs))

-- a body of a design that may be done: the text promises of its statements what it has to, and its calls nest no deeper
-- than the frame lets them
pub record BodyFits (d : Design) (f : Frame) (body : BodyTree) : Type 0 where
  pub tables : f.reader.tables ≡ tables_of d
  pub context : Context
  pub stands : context_at f.reader ≡ Some context
  pub promised : AllByRecursion (IsPromised context) (stmts_in body)
  pub nested : NestsWithin f.depth (design_tree d) (scope_of f.reader.at) (body_calls body)

-- the declaration of a local, as the assignment that it is
abbrev pub local_stmt : LocalTree → StmtTree
local_stmt l = assign (l.name ∷ []) None l.value

-- the declarations of several locals, as the assignments that they are
abbrev pub local_stmts : List LocalTree → List StmtTree
local_stmts ls = map local_stmt ls

-- a path that may be called, with so many arguments
pub record CallFits (d : Design) (f : Frame) (names : List Ident) (count : ℕ) : Type 0 where
  pub tables : f.reader.tables ≡ tables_of d
  pub context : Context
  pub stands : context_at f.reader ≡ Some context
  pub resolves : HasCallee context names count
  pub nested : NestsWithin f.depth (design_tree d) (scope_of f.reader.at) (names ∷ [])

-- a body is not sure to cross a location: what a run gets through is not
abbrev pub BodyMayPass : ScopedCells → BodyTree → Type 0
BodyMayPass s body =
    (c : Context) → context_at s ≡ Some c → body_crosses (suc (call_depth c.spec)) c.spec c.template body ≡ false

-- the task that a path calls, whose body may be done
pub record IsCalled (d : Design) (f : Frame) (names : List Ident) (called : CalledTask) : Type 0 where
  pub callee : IsCallee (tables_of d) f.reader.at names called.frame.reader.at called.task.now
  pub fits : BodyFits d called.frame (body_tree called.task.now.body)
  -- calls nest deeper here
  pub depth : f.depth ≡ suc called.frame.depth
  -- it is the one to which the path leads in the text
  pub reached : (c k : Context) → context_at f.reader ≡ Some c → context_at called.frame.reader ≡ Some k →
      task_reached c.spec c.template names ≡ Some (k.template, task_tree called.task.now)
  -- the call is sure to cross where its body is
  pub crosses : (c k : Context) → context_at f.reader ≡ Some c → context_at called.frame.reader ≡ Some k →
      call_crosses c.spec c.template names
      ≡ body_crosses (suc (call_depth k.spec)) k.spec k.template (body_tree called.task.now.body)
  -- what it returns has the type that it says
  pub answers : (ty : TypeName) (e : ExprTree) → called.task.now.kind ≡ Procedure (Some ty) →
      (body_tree called.task.now.body).answer ≡ Some e → HasTypeAt called.frame.reader (type_of ty) e

-- arguments that have the types of the parameters
abbrev pub AreArguments : ScopedCells → List Param → List ExprTree → Type 0
AreArguments s params args = AllZip (λ (p : Param) e. HasTypeAt s (type_of p.ty) e) params args

-- a body of an instance, below which any calls may be made
pub record IsFrame (d : Design) (at : SiteBody) (f : Frame) : Type 0 where
  pub reader : f.reader ≡ body_of d at
  pub nested : (calls : List (List Ident)) → NestsWithin f.depth (design_tree d) (scope_of at) calls

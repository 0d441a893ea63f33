-- What is asked of the statements of a body, by recursion over them: their expressions have the types that their places
-- ask for, their targets have cells, and their calls lead to tasks.
use Rattle.std.specs.Prelude.{◌≡◌, ⊤, Option, None, Some, List}
use Rattle.std.specs.List.{AllZip}
use Rattle.std.specs.Option.{option_map}
use Rattle.tm_syntax.specs.declared.design.Ty.{Ty}
use Rattle.tm_syntax.specs.declared.design.Ty.TheVariants as types
use Rattle.tm_syntax.specs.declared.tree.Ident.{Ident}
use Rattle.tm_syntax.specs.declared.tree.Param.{Param}
use Rattle.tm_syntax.specs.declared.tree.TaskDef.{TaskDef}
use Rattle.tm_syntax.specs.Tree.{ExprTree, element, ValueTree, star, result, plain, StmtTree, assign, invoke, branch, repeat, forever, choose, assert, assume, pause, wait, magic, StmtRow, nothing, then, BlockRow, nowhere, or_else}
use Rattle.tm_syntax.specs.Tree.View.{expr_tree}
use Rattle.tm_syntax.specs.Scopes.Names.{type_of}
use Rattle.tm_scope.specs.Cells.{ScopedCells}
use Rattle.tm_scope.specs.declared.cells.site_body.SiteBody.{SiteBody}
use Rattle.tm_design.specs.Typed.{HasTypeAt}
use Rattle.tm_flat_stmts.specs.Targets.{HasTargetAt}
use Rattle.tm_flat_stmts.specs.Elements.{HasCell, HasElements}
use Rattle.tm_design.specs.Callees.{IsCallee}

-- a target has a type, and a cell: a path, or each element of an array
abbrev pub TargetIsTyped : ScopedCells → Ty → List Ident → Option ExprTree → Type 0
TargetIsTyped s ty names None = HasTargetAt s ty names × HasCell s names None
TargetIsTyped s ty names (Some index) = HasTypeAt s ty (element names index) × HasElements s names

-- arguments have the types of the parameters
abbrev pub AreArguments : ScopedCells → List Param → List ExprTree → Type 0
AreArguments s params args = AllZip (λ (p : Param) e. HasTypeAt s (type_of p.ty) e) params args

-- a path leads to a task, and the arguments fit it
pub record CallIsTyped (s : ScopedCells) (names : List Ident) (args : List ExprTree) : Type 0 where
  pub at : SiteBody
  pub task : TaskDef
  pub is : IsCallee s.tables s.at names at task
  pub fit : (to : SiteBody) (of : TaskDef) → IsCallee s.tables s.at names to of → AreArguments s of.params.items args

-- and what it returns, if anything, is of a type
pub record ResultIsTyped (s : ScopedCells) (ty : Ty) (names : List Ident) (args : List ExprTree) : Type 0 where
  pub call : CallIsTyped s names args
  pub answer : (to : SiteBody) (of : TaskDef) → IsCallee s.tables s.at names to of → (e : ExprTree) →
      option_map expr_tree of.body.answer ≡ Some e → HasTypeAt (record { tables = s.tables; at = to }) ty e

-- what is assigned to a target of a type
abbrev pub ValueIsTyped : ScopedCells → Ty → ValueTree → Type 0
ValueIsTyped s ty (star _) = ⊤
ValueIsTyped s ty (result names args) = ResultIsTyped s ty names args
ValueIsTyped s ty (plain e) = HasTypeAt s ty e

-- a statement with those within it
abbrev mutual
  pub StmtIsTyped : ScopedCells → StmtTree → Type 0
  StmtIsTyped s (assign names index v) = (ty : Ty) × TargetIsTyped s ty names index × ValueIsTyped s ty v
  StmtIsTyped s (invoke names args) = CallIsTyped s names args
  StmtIsTyped s (branch e first second) = HasTypeAt s types.Bool e × RowIsTyped s first × RowIsTyped s second
  StmtIsTyped s (repeat _ e body) = HasTypeAt s types.Bool e × RowIsTyped s body
  StmtIsTyped s (forever _ body) = RowIsTyped s body
  StmtIsTyped s (choose _ blocks) = BlocksAreTyped s blocks
  StmtIsTyped s (assert _ e) = HasTypeAt s types.Bool e
  StmtIsTyped s (assume _ e) = HasTypeAt s types.Bool e
  StmtIsTyped s (pause _) = ⊤
  StmtIsTyped s (wait _ _) = ⊤
  StmtIsTyped s (magic _) = ⊤

  -- statements in a row
  pub RowIsTyped : ScopedCells → StmtRow → Type 0
  RowIsTyped s nothing = ⊤
  RowIsTyped s (then first others) = StmtIsTyped s first × RowIsTyped s others

  -- blocks in a row
  pub BlocksAreTyped : ScopedCells → BlockRow → Type 0
  BlocksAreTyped s nowhere = ⊤
  BlocksAreTyped s (or_else first others) = RowIsTyped s first × BlocksAreTyped s others

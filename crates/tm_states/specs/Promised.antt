-- What a checked text promises of the statements of a body.
use Rattle.std.specs.Prelude.{◌≡◌, [], ◌∷◌}
use Rattle.std.specs.List.{AllByRecursion}
use Rattle.tm_syntax.specs.Tree.{StmtTree, StmtRow, BlockRow}
use Rattle.tm_syntax.specs.Scopes.Context.{Context}
use Rattle.tm_syntax.specs.Scopes.Parts.{Asked, stmt_exprs, inner_stmts, row_stmts, block_stmts}
use Rattle.tm_syntax.specs.Faults.Crossings.{loop_faults}
use Rattle.tm_typing.specs.Promises.{HasAskedType}
use Rattle.tm_typing.specs.Statements.{StmtResolves}

-- the expressions of a statement itself have the types that their places ask for, its target and its call resolve, and
-- a loop is sure to cross a location
pub record IsPromised (c : Context) (s : StmtTree) : Type 0 where
  pub exprs : AllByRecursion (λ (a : Asked). HasAskedType (record { context = c; asked = a })) (stmt_exprs c s)
  pub resolves : StmtResolves c s
  pub crosses : loop_faults c.spec c.template s ≡ []

-- so it is of a statement and of all that stand within it
abbrev pub StmtIsPromised : Context → StmtTree → Type 0
StmtIsPromised c s = AllByRecursion (IsPromised c) (s ∷ inner_stmts s)

-- of the statements of a row, and of those of blocks
abbrev pub RowIsPromised : Context → StmtRow → Type 0
RowIsPromised c row = AllByRecursion (IsPromised c) (row_stmts row)

-- of the statements of blocks
abbrev pub BlocksArePromised : Context → BlockRow → Type 0
BlocksArePromised c blocks = AllByRecursion (IsPromised c) (block_stmts blocks)

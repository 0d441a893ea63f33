-- The paths that a statement calls, by its parts.
use Rattle.std.specs.Prelude.{List, [], ◌∷◌, ◌++◌}
use Rattle.tm_syntax.specs.declared.tree.Ident.{Ident}
use Rattle.tm_syntax.specs.Tree.{StmtTree, assign, invoke, branch, repeat, forever, choose, assert, assume, pause, wait, magic, StmtRow, nothing, then, BlockRow, nowhere, or_else}
use Rattle.tm_syntax.specs.Scopes.Parts.{value_calls}

-- the calls of a statement and of those within it, in text order
abbrev mutual
  pub stmt_calls : StmtTree → List (List Ident)
  stmt_calls (assign _ _ value) = value_calls value
  stmt_calls (invoke path _) = path ∷ []
  stmt_calls (branch _ first second) = row_calls first ++ row_calls second
  stmt_calls (repeat _ _ body) = row_calls body
  stmt_calls (forever _ body) = row_calls body
  stmt_calls (choose _ blocks) = block_calls blocks
  stmt_calls (assert _ _) = []
  stmt_calls (assume _ _) = []
  stmt_calls (pause _) = []
  stmt_calls (wait _ _) = []
  stmt_calls (magic _) = []

  pub row_calls : StmtRow → List (List Ident)
  row_calls nothing = []
  row_calls (then first others) = stmt_calls first ++ row_calls others

  pub block_calls : BlockRow → List (List Ident)
  block_calls nowhere = []
  block_calls (or_else first others) = row_calls first ++ block_calls others

-- The parts of a text as they are listed.
use Rattle.std.specs.Prelude.{List, map}
use Rattle.std.specs.Borrow.{Bor}
use Rattle.tm_syntax.specs.declared.tree.Stmt.{Stmt}
use Rattle.tm_syntax.specs.declared.tree.TypeName.{TypeName}
use Rattle.tm_syntax.specs.Tree.{StmtTree}
use Rattle.tm_syntax.specs.Tree.View.{stmt_tree}

-- the statements of a list
abbrev pub listed_stmts : List (Bor Stmt) → List StmtTree
listed_stmts stmts = map (λ (s : Bor Stmt). stmt_tree s.now) stmts

-- the types of a list
abbrev pub listed_types : List (Bor TypeName) → List TypeName
listed_types types = map (λ (ty : Bor TypeName). ty.now) types

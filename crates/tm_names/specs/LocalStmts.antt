-- The declaration of a local as a statement.
use Rattle.std.specs.Prelude.{None, [], ◌∷◌}
use Rattle.tm_syntax.specs.Tree.{StmtTree, assign, LocalTree}

-- a local's declaration assigns to it
abbrev pub declaration : LocalTree → StmtTree
declaration l = assign (l.name ∷ []) None l.value

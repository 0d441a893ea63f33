-- Names that nothing declares, in the parts of a body.
use Rattle.std.specs.Prelude.{List, ◌++◌}
use Rattle.tm_syntax.specs.Tree.{ExprTree, StmtTree}
use Rattle.tm_syntax.specs.Scopes.Context.{Context}
use Rattle.tm_syntax.specs.Scopes.Parts.{bare_targets, own_calls}
use Rattle.tm_syntax.specs.Faults.Marks.{Mark}
use Rattle.tm_syntax.specs.Faults.Names.{expr_paths, unknown_paths}

-- in the target and the call of a statement itself
abbrev pub unknown_in_stmt : Context → StmtTree → List Mark
unknown_in_stmt c s = unknown_paths c (bare_targets s ++ own_calls s)

-- in an expression
abbrev pub unknown_within : Context → ExprTree → List Mark
unknown_within c e = unknown_paths c (expr_paths e)

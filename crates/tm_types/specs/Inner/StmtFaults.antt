-- What does not fit in a statement itself.
use Rattle.std.specs.Prelude.{List, ◌++◌}
use Rattle.tm_base.specs.declared.place.Place.{Place}
use Rattle.tm_syntax.specs.Tree.{StmtTree}
use Rattle.tm_syntax.specs.Scopes.Context.{Context}
use Rattle.tm_syntax.specs.Faults.Mismatches.{stmt_call_faults, target_faults}

-- its target and its call
abbrev pub stmt_faults : Context → StmtTree → List Place
stmt_faults c s = target_faults c s ++ stmt_call_faults c s

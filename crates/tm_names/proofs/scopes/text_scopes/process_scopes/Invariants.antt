use Rattle.std.proofs.Common.{List, map, take}
use Rattle.tm_syntax.specs.Scopes.Declared.{Declared}
use Rattle.tm_syntax.specs.Tree.View.{process_tree}
use Rattle.tm_names.specs.ScopeNames.{IsScope}
use Rattle.tm_names.specs.TextScopes.{Each, IsProcessScope}
use Rattle.tm_names.proofs.scopes.text_scopes.process_scopes.Given as goal

abbrev pub invariant-loop-process : goal.invariant-loop-process
invariant-loop-process l =
    (around : List Declared) → IsScope l.members around →
    Each (IsProcessScope around l.members) (map process_tree (take l.process-index l.processes)) l.scopes.items

use Rattle.std.proofs.Common.{List, map, take}
use Rattle.tm_syntax.specs.Scopes.Declared.{Declared}
use Rattle.tm_syntax.specs.Tree.View.{task_tree}
use Rattle.tm_names.specs.ScopeNames.{IsScope}
use Rattle.tm_names.specs.TextScopes.{Each, IsTaskScope}
use Rattle.tm_names.proofs.scopes.text_scopes.task_scopes.Given as goal

abbrev pub invariant-loop-task : goal.invariant-loop-task
invariant-loop-task l =
    (around : List Declared) → IsScope l.members around →
    Each (IsTaskScope around l.members) (map task_tree (take l.task-index l.tasks)) l.scopes.items

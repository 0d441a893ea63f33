use Rattle.std.proofs.Common.{◌≤◌, List, length}
use Rattle.tm_syntax.specs.Scopes.Declared.{Declared}
use Rattle.tm_names.specs.ScopeNames.{IsScope}
use Rattle.tm_names.proofs.ScopeSteps.{IsFrom}
use Rattle.tm_names.proofs.scopes.scope.scope_within.Given as goal

abbrev pub invariant-loop-left : goal.invariant-loop-left
invariant-loop-left l =
    (l.left ≤ length l.declared)
    × ((around : List Declared) → IsScope l.outer around →
    IsFrom l.declared l.left l.names l.outer l.repeat around)

abbrev pub decreases-loop-left : goal.decreases-loop-left
decreases-loop-left l = l.left

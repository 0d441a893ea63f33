use Rattle.std.proofs.Common.{◌≡◌, drop}
use Rattle.tm_syntax.specs.Scopes.Pauses.{value_pauses}
use Rattle.tm_scope.specs.Marks.{is_marked}
use Rattle.tm_scope.proofs.BodyRows.{passes}
use Rattle.tm_scope.proofs.calls.bodies.local_pauses.Given as goal

abbrev pub invariant-loop-local : goal.invariant-loop-local
invariant-loop-local l =
    passes (λ x. value_pauses (is_marked l.calls) x.value) (drop l.local-index l.locals)
    ≡ passes (λ x. value_pauses (is_marked l.calls) x.value) l.locals

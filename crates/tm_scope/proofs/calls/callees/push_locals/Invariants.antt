use Rattle.std.proofs.Common.{◌≡◌, ◌++◌, drop}
use Rattle.tm_scope.specs.Marks.{marked_number}
use Rattle.tm_scope.proofs.CalleeRows.{local_numbers}
use Rattle.tm_scope.proofs.calls.callees.push_locals.Given as goal

abbrev pub invariant-loop-local : goal.invariant-loop-local
invariant-loop-local l =
    l.all.items ++ local_numbers (marked_number l.calls) (drop l.local-index l.locals)
    ≡ l.initial.all.items ++ local_numbers (marked_number l.calls) l.locals

use Rattle.std.proofs.Common.{take}
use Rattle.tm_scope.specs.Inner.Tables.{AreNumbered}
use Rattle.tm_scope.proofs.variables.numbers.Given as goal

abbrev pub invariant-loop-number : goal.invariant-loop-number
invariant-loop-number l = AreNumbered (take l.number l.vars) l.numbers.entries

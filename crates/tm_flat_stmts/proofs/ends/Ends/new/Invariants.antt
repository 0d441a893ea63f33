use Rattle.tm_flat_stmts.proofs.Stopping.{NoneStopped}
use Rattle.tm_flat_stmts.proofs.ends.Ends.new.Given as goal

abbrev pub invariant-loop-number : goal.invariant-loop-number
invariant-loop-number l = NoneStopped l._number l.stops.items

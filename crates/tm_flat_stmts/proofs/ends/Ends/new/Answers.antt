use Rattle.std.proofs.Common.{◌+◌, sym, subst}
use Rattle.tm_flat_stmts.proofs.Stopping.{NoneStopped, none_more, none_stopped}
use Rattle.tm_flat_stmts.proofs.ends.Ends.new.Goals as goal

pub loop-number-init : goal.loop-number-init
loop-number-init c = subst (NoneStopped 0) (sym c.new-stops.ensures.items) none_stopped

pub loop-number-preserved : goal.loop-number-preserved
loop-number-preserved c =
    subst (NoneStopped (c.loop-number._number + 1)) (sym c.in_ok-push.ensures.items)
    (none_more c.loop-number._number c.loop-number.stops.items c.loop-number.invariant)

use Rattle.std.proofs.Common.{arith}
use Rattle.tm_struct.proofs.Followed.{unreached_more}
use Rattle.tm_struct.proofs.reaching.unreached.Goals as goal

pub loop-at-preserved : goal.loop-at-preserved
loop-at-preserved c = unreached_more c.loop-at._at _ _ (omega arith) c.loop-at.invariant c.in_ok-push-2.ensures.items

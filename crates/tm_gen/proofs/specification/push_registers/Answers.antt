use Rattle.tm_gen.proofs.Texts.{one_more}
use Rattle.tm_gen.proofs.specification.push_registers.Goals as goal

pub loop-k-preserved : goal.loop-k-preserved
loop-k-preserved c = one_more c.loop-k.k _ _ _ c.loop-k.invariant c.in_ok-push_register.ensures

use Rattle.tm_reorder.proofs.ClampedBits.{one_clamped}
use Rattle.tm_reorder.proofs.clamping.push_clamped.Goals as goal

pub returns-clause-pushed : goal.returns-clause-pushed
returns-clause-pushed c =
    one_clamped c.args.dd.now.table c.bit_of.new.dd.table c.tightened.new.dd.table c.clamped.new.dd.table c.args.level
    c.args.one c.args.tight c.in_ok-bit.bit c.in_ok-next.next c.in_ok-here.here c.args.bits.now.items
    c.push.new.self.items c.bit_of.ensures.extends c.tightened.ensures.extends c.clamped.ensures.extends
    c.requires.tight c.in_ok-bit.ensures.answer c.in_ok-next.ensures.answer c.in_ok-here.ensures.answer
    c.in_ok-push.ensures.items

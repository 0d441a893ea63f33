use Rattle.std.proofs.Common.{arith}
use Rattle.tm_flat_states.proofs.Spaces.{all_bits, more_bits}
use Rattle.tm_flat_states.proofs.inputs.push_bits.Goals as goal

pub loop-count-preserved : goal.loop-count-preserved
loop-count-preserved c =
    more_bits c.args.widths.now.items c.loop-count.widths.items c.push.new.self.items c.loop-count._count
    c.loop-count.invariant c.in_ok-push.ensures.items

pub returns : goal.returns
returns c =
    all_bits c.args.widths.now.items c.loop-count.widths.items c.loop-count._count
    (omega (arith, c.loop-count-test.false)) (omega (arith, c.loop-count.auto._count-end)) c.loop-count.invariant

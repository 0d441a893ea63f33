use Rattle.std.proofs.Common.{ℕ, ◌+◌, ◌*◌, ap, arith}
use Rattle.tm_strat.proofs.Bits.{bits_all, bits_below, bits_more, bits_none, byte_is, byte_small}
use Rattle.tm_strat.proofs.choosing.bits_from.Goals as goal

pub loop-index-init : goal.loop-index-init
loop-index-init c = bits_none c.args.values.now c.args.first

pub overflow_mul-bits : goal.overflow_mul-bits
overflow_mul-bits c =
    let room = bits_below c.loop-index.index c.loop-index-test.true in
    let below = c.loop-index.invariant.below in
    omega (arith, room, below)

pub overflow_add-bits : goal.overflow_add-bits
overflow_add-bits c =
    let room = bits_below c.loop-index.index c.loop-index-test.true in
    let below = c.loop-index.invariant.below in
    let small = byte_small c.value_at-here.result c.from.result c.from.ensures in
    omega (arith, room, below, small)

pub loop-index-preserved : goal.loop-index-preserved
loop-index-preserved c =
    bits_more c.args.values.now c.args.first c.loop-index.index c.loop-index.bits _ c.value_at-here.result
    c.loop-index.invariant c.value_at-here.ensures
    (ap (λ (n : ℕ). c.loop-index.bits * 2 + n) (byte_is c.value_at-here.result c.from.result c.from.ensures))

pub returns : goal.returns
returns c =
    let ends = c.loop-index.auto.index-end in
    let last = c.loop-index-test.false in
    bits_all c.args.values.now c.args.first c.loop-index.index c.loop-index.bits (omega (arith, ends, last))
    c.loop-index.invariant

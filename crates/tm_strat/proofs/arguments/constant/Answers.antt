use Rattle.std.proofs.Common.{◌≡◌, ℕ, ◌+◌, ◌*◌, ap, ◌∙◌, arith}
use Rattle.tm_flat.specs.BitRun.{number_at}
use Rattle.tm_strat.proofs.Bits.{bits_below, byte_is, byte_small}
use Rattle.tm_strat.proofs.Written.{number_more, number_small}
use Rattle.tm_strat.specs.Spelled.{bit_in}
use Rattle.tm_strat.proofs.arguments.constant.Goals as goal

pub overflow_mul-number : goal.overflow_mul-number
overflow_mul-number c =
    let room = bits_below c.loop-index.index (omega arith) in
    let small = number_small c.args.bits c.args.first c.loop-index.index in
    let is = c.loop-index.invariant in
    omega (arith, room, small, is)

pub overflow_add-number : goal.overflow_add-number
overflow_add-number c =
    let room = bits_below c.loop-index.index (omega arith) in
    let small = number_small c.args.bits c.args.first c.loop-index.index in
    let is = c.loop-index.invariant in
    let bit = byte_small c.bit_at-here.result c.from.result c.from.ensures in
    omega (arith, room, small, is, bit)

pub loop-index-preserved : goal.loop-index-preserved
loop-index-preserved c =
    number_more c.args.bits c.args.first c.loop-index.index c.loop-index.number c.bit_at-here.result _
    c.loop-index.invariant c.bit_at-here.ensures
    (ap (λ (n : ℕ). c.loop-index.number * 2 + n) (byte_is c.bit_at-here.result c.from.result c.from.ensures))

pub returns : goal.returns
returns c =
    let ends = c.loop-index.auto.index-end in
    let last = c.loop-index-test.false in
    let all : c.loop-index.index ≡ c.args.width = omega (arith, ends, last) in
    c.loop-index.invariant ∙ ap (λ (n : ℕ). number_at (bit_in c.args.bits) c.args.first n) all

use Rattle.std.proofs.Common.{false, get_or, ap, ◌∙◌, ◌+◌, ◌*◌, refl, arith}
use Rattle.tm_game.proofs.Reading.{bit_of, number_more, number_small}
use Rattle.tm_game.proofs.numbers.number_of.Goals as goal

pub overflow_mul-number : goal.overflow_mul-number
overflow_mul-number c =
    let more = number_more c.args.bits.now c.loop-bit.bit-index c.loop-bit.number
    (get_or c.args.bits.now c.loop-bit.bit-index false) c.loop-bit-test.true refl c.loop-bit.invariant in
    let small = number_small c.args.bits.now (c.loop-bit.bit-index + 1) (omega (arith, c.loop-bit-test.true))
    c.requires in
    omega (arith, more, small)

pub overflow_add-number : goal.overflow_add-number
overflow_add-number c =
    let bit = get_or c.args.bits.now c.loop-bit.bit-index false in
    let more = number_more c.args.bits.now c.loop-bit.bit-index c.loop-bit.number bit c.loop-bit-test.true refl
    c.loop-bit.invariant in
    let small = number_small c.args.bits.now (c.loop-bit.bit-index + 1) (omega (arith, c.loop-bit-test.true))
    c.requires in
    omega (arith, more, small, c.from.ensures, bit_of bit)

pub loop-bit-preserved : goal.loop-bit-preserved
loop-bit-preserved c =
    let bit = get_or c.args.bits.now c.loop-bit.bit-index false in
    ap (λ n. 2 * c.loop-bit.number + n) (c.from.ensures ∙ bit_of bit)
    ∙ number_more c.args.bits.now c.loop-bit.bit-index c.loop-bit.number bit c.loop-bit-test.true refl
    c.loop-bit.invariant

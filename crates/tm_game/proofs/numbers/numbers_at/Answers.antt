use Rattle.std.proofs.Common.{◌≡◌, ◌+◌, ◌-◌, get_or, take, drop, refl, ap, ◌∙◌, arith}
use Rattle.tm_base.specs.Bits.{number_of}
use Rattle.tm_game.proofs.Reading.{read_all, read_long, read_more}
use Rattle.tm_game.proofs.numbers.numbers_at.Goals as goal

pub loop-width-preserved : goal.loop-width-preserved
loop-width-preserved c =
    let width = get_or c.args.widths.now c.loop-width.width-index 0 in
    let same : c.loop-width.place + width - c.loop-width.place ≡ width = omega arith in
    read_more c.args.bits.now c.args.widths.now c.loop-width.numbers.items c.push.new.self.items c.loop-width.place
    c.loop-width.width-index width c.number_of.result c.loop-width-test.true refl c.requires.bits
    c.loop-width.invariant
    (c.number_of.ensures ∙ ap (λ n. number_of (take n (drop c.loop-width.place c.args.bits.now))) same)
    c.in_ok-push.ensures.items

pub returns-clause-numbers : goal.returns-clause-numbers
returns-clause-numbers c =
    read_all c.args.bits.now c.args.widths.now c.loop-width.numbers.items c.loop-width.place c.loop-width.width-index
    c.loop-width-test.false c.loop-width.invariant

pub returns-clause-count : goal.returns-clause-count
returns-clause-count c =
    read_long c.args.bits.now c.args.widths.now c.loop-width.numbers.items 0
    (read_all c.args.bits.now c.args.widths.now c.loop-width.numbers.items c.loop-width.place c.loop-width.width-index
    c.loop-width-test.false c.loop-width.invariant)

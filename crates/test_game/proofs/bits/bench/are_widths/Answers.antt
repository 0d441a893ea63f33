use Rattle.std.proofs.Common.{◌≡◌, IsTrue, ℕ, List, All, length, rules, sym, arith}
use Rattle.std.proofs.lemmas.List.{take_all}
use Rattle.std.proofs.lemmas.List.Elements.{All-more, All-same}
use Rattle.tm_base.specs.Arithmetic.{IsWidth}
use Rattle.test_game.proofs.bits.bench.are_widths.Goals as goal

pub loop-width-preserved : goal.loop-width-preserved
loop-width-preserved c =
    let passed : IsTrue c.is_width.result = search rules in
    All-more IsWidth c.args.widths.now c.loop-width.width-index _ (omega (arith, c.loop-width-test.true))
    c.loop-width.invariant (c.is_width.ensures.0 passed)

pub returns : goal.returns
returns c = λ passed.
    let ends = c.loop-width.auto.width-index-end in
    let last = c.loop-width-test.false in
    All-same IsWidth c.args.widths.now _
    (sym (take_all c.loop-width.width-index c.args.widths.now (omega (arith, ends, last)))) c.loop-width.invariant

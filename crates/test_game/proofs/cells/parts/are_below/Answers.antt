use Rattle.std.proofs.Common.{ℕ, ◌<◌, All, arith, subst, take_all}
use Rattle.std.proofs.lemmas.List.Elements.{All-more}
use Rattle.test_game.proofs.cells.parts.are_below.Goals as goal

pub loop-number-preserved : goal.loop-number-preserved
loop-number-preserved c =
    All-more (λ (k : ℕ). k < c.args.bound) c.args.numbers.now c.loop-number.number-index 0 c.loop-number-test.true
    c.loop-number.invariant c.if-number-bound.false

pub returns : goal.returns
returns c = λ _.
    subst (All (λ (k : ℕ). k < c.args.bound))
    (take_all c.loop-number.number-index c.args.numbers.now (omega (arith, c.loop-number-test.false)))
    c.loop-number.invariant

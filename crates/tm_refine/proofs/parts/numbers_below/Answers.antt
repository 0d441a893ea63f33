use Rattle.std.proofs.Common.{sym, ap, ◌∙◌, arith}
use Rattle.std.specs.List.{filter}
use Rattle.std.specs.Prelude.{nat_lt}
use Rattle.std.proofs.lemmas.List.{get_or_default, take_all}
use Rattle.tm_refine.specs.PoolTests.{within_more}
use Rattle.tm_refine.proofs.parts.numbers_below.Goals as goal

pub loop-number-preserved : goal.loop-number-preserved
loop-number-preserved c =
    within_more c.args.bound c.args.numbers.now c.loop-number.number-index _ c.loop-number.below.items
    c.push_below.new.numbers.items c.loop-number-test.true
    (sym (get_or_default c.args.numbers.now c.loop-number.number-index _ _ c.loop-number-test.true))
    c.in_ok-push_below.ensures c.loop-number.invariant

pub returns : goal.returns
returns c =
    c.loop-number.invariant
    ∙ ap (λ ks. filter (λ k. nat_lt k c.args.bound) ks)
    (take_all c.loop-number.number-index c.args.numbers.now (omega arith))

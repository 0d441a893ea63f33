use Rattle.std.proofs.Common.{ℕ, ◌<◌, ◌^◌, List, length, get_or, refl, ap, ◌∙◌, subst, arith}
use Rattle.std.proofs.lemmas.List.{take_all}
use Rattle.std.proofs.lemmas.List.Sums.{sum_by_more}
use Rattle.std.specs.Prelude.{sum}
use Rattle.tm_strat.proofs.Testing.{no_bits, number_bits}
use Rattle.tm_strat.specs.Tested.{AreAllBits}
use Rattle.tm_strat.specs.Trees.{number_in}
use Rattle.tm_strat.specs.declared.predicates.Predicate.{Predicate}
use Rattle.tm_strat.proofs.tests.bits.Goals as goal

pub loop-index-init : goal.loop-index-init
loop-index-init c = record {
  bits = λ few. no_bits c.args.counts c.args.widths.now c.new-found.result.items;
  count = ap (λ (l : List Predicate). length l) c.new-found.ensures.items;
}

pub loop-index-preserved : goal.loop-index-preserved
loop-index-preserved c =
    let below = c.loop-index-test.true in
    let before = c.loop-index.invariant.count in
    let pushed = c.in_ok-push_bits.ensures.count_is in
    let more = sum_by_more (λ (n : ℕ). n) c.args.widths.now c.loop-index.index 0 below in
    record {
      bits = λ few.
          let small : c.loop-index.index < 2 ^ 32 = omega (arith, below, few) in
          number_bits c.args.counts c.args.widths.now c.loop-index.index (get_or c.args.widths.now c.loop-index.index 0)
          c.number_at-number.result c.loop-index.found.items c.push_bits.new.found.items
          (c.loop-index.invariant.bits few) below refl
          (c.number_at-number.ensures ∙ ap (number_in c.args.counts) (c.narrow.ensures small))
          c.in_ok-push_bits.ensures;
      count = omega (arith, before, pushed, more);
    }

pub returns-clause-bits : goal.returns-clause-bits
returns-clause-bits c = λ few.
    subst (λ (l : List ℕ). AreAllBits c.args.counts l c.loop-index.found.items)
    (take_all c.loop-index.index c.args.widths.now c.loop-index-test.false) (c.loop-index.invariant.bits few)

pub returns-clause-count : goal.returns-clause-count
returns-clause-count c =
    c.loop-index.invariant.count
    ∙ ap (λ (l : List ℕ). sum l) (take_all c.loop-index.index c.args.widths.now c.loop-index-test.false)

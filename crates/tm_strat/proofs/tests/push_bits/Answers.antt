use Rattle.std.proofs.Common.{◌-◌, List, length, ap, arith}
use Rattle.std.proofs.lemmas.List.{length_push}
use Rattle.tm_strat.proofs.Testing.{bit_pushed}
use Rattle.tm_strat.specs.declared.predicates.Predicate.{Predicate}
use Rattle.tm_strat.specs.declared.predicates.Predicate.TheVariants.{Bit}
use Rattle.tm_strat.proofs.tests.push_bits.Goals as goal

pub loop-passed-init : goal.loop-passed-init
loop-passed-init c = record {
  stay = λ p there. there;
  bits = λ weight below above. absurd (omega (arith, below, above));
  within = omega arith;
  count_is = omega arith;
}

pub loop-passed-preserved : goal.loop-passed-preserved
loop-passed-preserved c =
    let more = bit_pushed c.args.number c.args.found.now.items c.loop-passed.found.items c.push.new.self.items
    c.args.width c.loop-passed.passed c.loop-passed-test.true c.loop-passed.invariant.stay
    c.loop-passed.invariant.bits c.in_ok-push.ensures.items in
    let below = c.loop-passed-test.true in
    let count = c.loop-passed.invariant.count_is in
    let pushed = ap (λ (l : List Predicate). length l) c.in_ok-push.ensures.items in
    let long = length_push c.loop-passed.found.items
    (Bit c.args.number (c.args.width - 1 - c.loop-passed.passed)) in
    record {
      stay = more.stay;
      bits = more.bits;
      within = omega (arith, below);
      count_is = omega (arith, count, pushed, long);
    }

pub returns : goal.returns
returns c = record {
  stay = c.loop-passed.invariant.stay;
  bits = λ weight below.
      let last = c.loop-passed-test.false in c.loop-passed.invariant.bits weight below (omega (arith, last));
  count_is =
      let last = c.loop-passed-test.false in
      let within = c.loop-passed.invariant.within in
      let count = c.loop-passed.invariant.count_is in
      omega (arith, last, within, count);
}

use Rattle.std.proofs.Common.{◌+◌, ◌∙◌, arith}
use Rattle.std.proofs.lemmas.Bool.Decides.{nat_tests}
use Rattle.tm_strat.proofs.making.drafted_blocks.Goals as goal

pub strategies-requires : goal.strategies-requires
strategies-requires c =
    let few = (c.are_counted.ensures.yes c.if-not-are_counted.false).few in
    let tests = c.len.ensures ∙ c.args.choosing.now.tests.holds.ok.0 in
    let goals = c.len-2.ensures ∙ c.args.choosing.now.goals.ok.0 in
    let states = c.narrow-states.ensures (omega (arith, few, tests)) in
    let count = c.narrow-goals.ensures (omega (arith, few, goals)) in
    record {
      some = grind (arith, nat_tests, c.is_empty.ensures, c.if-is_empty.false, count ∙ goals);
      few = omega (arith, few, tests, goals, states, count);
      tests = states ∙ tests;
      goals = count ∙ goals;
    }

pub returns : goal.returns
returns c = record {
  grows = c.strategies.ensures.follows.1.grows;
  later = (c.narrow-states.result + c.narrow-goals.result, c.in_ok-blocks.ensures.later);
  good = λ counted j below.
      let goals = c.len-2.ensures ∙ c.args.choosing.now.goals.ok.0 in
      let few = counted.few in
      let count = c.narrow-goals.ensures (omega (arith, few, goals)) in
      c.in_ok-blocks.ensures.good j (omega (arith, below, count, goals));
}

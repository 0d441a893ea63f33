use Rattle.std.proofs.Common.{ℕ, subst, arith}
use Rattle.std.proofs.lemmas.List.{get_or_default}
use Rattle.tm_strat.proofs.Carrying.{grown, of_stays, sized_stays}
use Rattle.tm_strat.proofs.Testing.{tests_of_more, tests_of_none}
use Rattle.tm_strat.specs.Tested.{AreTestsOf}
use Rattle.tm_strat.proofs.reading.read_tests.Goals as goal
use Rattle.tm_syntax.specs.Design.View.{design_tree}

pub loop-predicate-init : goal.loop-predicate-init
loop-predicate-init c = record {
  grows = λ base b. b;
  tests = tests_of_none (design_tree c.args.design.now) c.args.game.now c.args.counts c.args.predicates.now
      c.new-diagrams.result.items c.new-diagrams.ensures.items;
}

pub read_test-requires-clause-of : goal.read_test-requires-clause-of
read_test-requires-clause-of c =
    of_stays c.args.game.now c.loop-predicate.game c.loop-predicate.invariant.grows (design_tree c.args.design.now)
    c.requires.of

pub read_test-requires-clause-sized : goal.read_test-requires-clause-sized
read_test-requires-clause-sized c =
    sized_stays c.args.game.now c.loop-predicate.game c.loop-predicate.invariant.grows c.requires.sized

pub loop-predicate-preserved : goal.loop-predicate-preserved
loop-predicate-preserved c = record {
  grows = λ base b. c.read_test.ensures.grows base (c.loop-predicate.invariant.grows base b);
  tests = tests_of_more (design_tree c.args.design.now) c.loop-predicate.game c.read_test.new.game
      (grown c.loop-predicate.game c.read_test.new.game c.read_test.ensures.grows) c.args.counts
      c.args.predicates.now c.loop-predicate.diagrams.items c.push.new.self.items c.loop-predicate.predicate-index _
      c.in_ok-holds.holds c.loop-predicate.invariant.tests c.loop-predicate-test.true
      (get_or_default c.args.predicates.now c.loop-predicate.predicate-index _ _ c.loop-predicate-test.true)
      c.in_ok-holds.ensures.test c.in_ok-push.ensures.items;
}

pub returns-clause-tests : goal.returns-clause-tests
returns-clause-tests c =
    let ends = c.loop-predicate.auto.predicate-index-end in
    let last = c.loop-predicate-test.false in
    subst (λ (n : ℕ). AreTestsOf (design_tree c.args.design.now) c.loop-predicate.game c.args.counts
    c.args.predicates.now c.loop-predicate.diagrams.items n) (omega (arith, ends, last))
    c.loop-predicate.invariant.tests

pub returns-in_err-holds-clause-grows : goal.returns-in_err-holds-clause-grows
returns-in_err-holds-clause-grows c = λ base b. c.read_test.ensures.grows base (c.loop-predicate.invariant.grows base b)

pub returns-in_err-push-clause-grows : goal.returns-in_err-push-clause-grows
returns-in_err-push-clause-grows c = λ base b. c.read_test.ensures.grows base (c.loop-predicate.invariant.grows base b)

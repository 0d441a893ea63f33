use Rattle.std.proofs.Common.{◌≡◌, Option, List, length, ap, subst, arith}
use Rattle.std.specs.Prelude.{IfSome}
use Rattle.tm_flat_stmts.specs.Flows.{FlowTerms, IsFlow, stop_of}
use Rattle.tm_flat_stmts.proofs.Flowing.{ends_along}
use Rattle.tm_flat_moves.specs.Arrived.{Arrives}
use Rattle.tm_flat_moves.proofs.Arriving.{arrives_none, arrives_on, stop_read}
use Rattle.tm_flat_moves.proofs.arrivals.arrivals.Goals as goal

pub loop-number-init : goal.loop-number-init
loop-number-init c = λ x are. arrives_none x c.args.terms.now c.args.width c.args.ends.now c.requires.sound

pub arrived_on-requires-clause-within : goal.arrived_on-requires-clause-within
arrived_on-requires-clause-within c =
    let same = ap length c.stops-stops.ensures in omega (arith, same, c.loop-number-test.true, c.requires.within)

pub arrived_on-requires-clause-sound : goal.arrived_on-requires-clause-sound
arrived_on-requires-clause-sound c = (c.loop-number.invariant c.requires.ends.0 c.requires.ends.1).sound

pub arrived_on-requires-clause-place : goal.arrived_on-requires-clause-place
arrived_on-requires-clause-place c = (c.loop-number.invariant c.requires.ends.0 c.requires.ends.1).place

pub arrived_on-requires-clause-flows : goal.arrived_on-requires-clause-flows
arrived_on-requires-clause-flows c =
    let x = c.requires.ends.0 in
    let ends = c.args.ends.now in
    let far = c.loop-number.invariant x c.requires.ends.1 in (
      x,
      far.flow,
      subst (λ (o : Option FlowTerms). IfSome o (IsFlow x c.loop-number.terms))
          (stop_read ends c.stops-stops.result.now c.loop-number.number c.index-stops-number.result
          c.stops-stops.ensures
          c.loop-number-test.true c.index-stops-number.is)
          ((ends_along x c.args.terms.now c.loop-number.terms ends far.grown c.requires.ends.1).stops
          c.loop-number.number),
    )

pub loop-number-preserved : goal.loop-number-preserved
loop-number-preserved c = λ x are.
    let ends = c.args.ends.now in
    let t = c.args.terms.now in
    let there = stop_read ends c.stops-stops.result.now c.loop-number.number c.index-stops-number.result
    c.stops-stops.ensures c.loop-number-test.true c.index-stops-number.is in
    arrives_on x t c.loop-number.terms c.arrived_on.new.terms c.args.width c.loop-number.number ends
    c.loop-number.before
    c.in_ok-before.before c.index-stops-number.result there
    (subst (λ (o : Option FlowTerms). IfSome o (IsFlow x t)) there (are.stops c.loop-number.number))
    (c.loop-number.invariant x are) c.in_ok-before.ensures

pub returns : goal.returns
returns c = λ x are.
    let same = ap length c.stops-stops.ensures in
    let most : c.loop-number.number ≡ length c.args.ends.now.stops =
    omega (arith, same, c.loop-number-test.false, c.loop-number.auto.number-end) in
    subst (λ k. Arrives x c.args.terms.now c.loop-number.terms c.args.width c.args.ends.now k c.loop-number.before) most
    (c.loop-number.invariant x are)

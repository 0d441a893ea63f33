use Rattle.std.proofs.Common.{Option, Some, sym, subst}
use Rattle.std.specs.Prelude.{IfSome}
use Rattle.tm_flat.specs.Steps.{IsTerm}
use Rattle.tm_flat_stmts.specs.Flows.{IsFlow}
use Rattle.tm_flat_moves.specs.declared.arrivals.Arrived.{Arrived}
use Rattle.tm_flat_moves.specs.Arrived.{ArrivesOn}
use Rattle.tm_flat_moves.proofs.arrivals.arrived_beside.Goals as goal

pub arrived_more-requires-clause-place : goal.arrived_more-requires-clause-place
arrived_more-requires-clause-place c =
    subst (λ (o : Option Arrived). IfSome o (λ a. IsTerm c.args.terms.now c.args.width a.place)) c.in-Some.is
    c.requires.place

pub arrived_more-requires-clause-flows : goal.arrived_more-requires-clause-flows
arrived_more-requires-clause-flows c = (
  c.requires.flows.0,
  subst (λ (o : Option Arrived). IfSome o (λ a. IsFlow c.requires.flows.0 c.args.terms.now a.flow)) c.in-Some.is
      c.requires.flows.1,
  c.requires.flows.2,
)

pub returns-in_ok-first-in-None : goal.returns-in_ok-first-in-None
returns-in_ok-first-in-None c =
    subst (λ (o : Option Arrived). ArrivesOn c.args.terms.now c.arrived_first.new.terms c.args.width c.args.number o
    (Some c.args.stop.now) (Some c.in_ok-first-in-None.first)) (sym c.in-None.is) c.in_ok-first-in-None.ensures

pub returns-in_ok-more-in-Some : goal.returns-in_ok-more-in-Some
returns-in_ok-more-in-Some c =
    subst (λ (o : Option Arrived). ArrivesOn c.args.terms.now c.arrived_more.new.terms c.args.width c.args.number o
    (Some c.args.stop.now) (Some c.in_ok-more-in-Some.more)) (sym c.in-Some.is) c.in_ok-more-in-Some.ensures

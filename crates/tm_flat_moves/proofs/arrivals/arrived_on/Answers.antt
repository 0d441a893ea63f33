use Rattle.std.proofs.Common.{Option, Some, refl, sym, subst}
use Rattle.std.specs.Prelude.{IfSome}
use Rattle.tm_flat_stmts.specs.Flows.{FlowTerms, IsFlow}
use Rattle.tm_flat_moves.specs.Arrived.{ArrivesOn}
use Rattle.tm_flat_moves.proofs.arrivals.arrived_on.Goals as goal

pub arrived_beside-requires-clause-flows : goal.arrived_beside-requires-clause-flows
arrived_beside-requires-clause-flows c = (
  c.requires.flows.0,
  c.requires.flows.1,
  subst (λ (o : Option FlowTerms). IfSome o (IsFlow c.requires.flows.0 c.args.terms.now)) c.in-Some.is
      c.requires.flows.2,
)

pub returns-in-None : goal.returns-in-None
returns-in-None c =
    subst (λ (o : Option FlowTerms). ArrivesOn c.args.terms.now c.args.terms.now c.args.width c.args.number
    c.args.before o c.args.before) (sym c.in-None.is) (refl, refl)

pub returns-in_ok-arrived-in-Some : goal.returns-in_ok-arrived-in-Some
returns-in_ok-arrived-in-Some c =
    subst (λ (o : Option FlowTerms). ArrivesOn c.args.terms.now c.arrived_beside.new.terms c.args.width c.args.number
    c.args.before o (Some c.in_ok-arrived-in-Some.arrived)) (sym c.in-Some.is) c.in_ok-arrived-in-Some.ensures

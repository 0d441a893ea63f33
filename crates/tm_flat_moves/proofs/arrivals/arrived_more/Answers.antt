use Rattle.std.proofs.Common.{refl, sym, subst}
use Rattle.tm_flat_stmts.specs.Flows.{FlowTerms, IsFlow, MakesJoin}
use Rattle.tm_flat_moves.proofs.Choosing.{choice_fits, more_made}
use Rattle.tm_flat_moves.proofs.arrivals.arrived_more.Goals as goal

pub make-requires : goal.make-requires
make-requires c = (c.requires.width, c.requires.within)

pub joined-requires-clause-flows : goal.joined-requires-clause-flows
joined-requires-clause-flows c =
    let x = c.requires.flows.0 in (
      x,
      subst (IsFlow x c.args.terms.now) (sym c.in_ok-arrived.ensures) c.requires.flows.1,
      c.requires.flows.2,
    )

pub make-requires-2 : goal.make-requires-2
make-requires-2 c =
    choice_fits c.args.terms.now c.joined.new.terms c.make.new.terms c.args.width c.args.number c.args.before.now
    c.args.stop.now c.in_ok-flow.flow c.in_ok-here.here c.requires.flows.0 c.requires.flows.1 c.requires.place
    (subst (λ (f : FlowTerms). MakesJoin c.args.terms.now c.joined.new.terms f c.args.stop.now c.in_ok-flow.flow)
    c.in_ok-arrived.ensures c.in_ok-flow.ensures) c.in_ok-here.ensures c.guard.result c.guard.ensures

pub returns : goal.returns
returns c =
    more_made c.args.terms.now c.joined.new.terms c.make.new.terms c.args.width c.args.number c.args.before.now
    c.args.stop.now c.in_ok-flow.flow c.in_ok-here.here c.requires.flows.0 c.requires.flows.1 c.requires.place
    (subst (λ (f : FlowTerms). MakesJoin c.args.terms.now c.joined.new.terms f c.args.stop.now c.in_ok-flow.flow)
    c.in_ok-arrived.ensures c.in_ok-flow.ensures) c.in_ok-here.ensures c.guard.result c.guard.ensures c.make-2.new.terms
    (record { flow = c.in_ok-flow.flow; place = c.in_ok-place.place }) refl c.in_ok-place.ensures

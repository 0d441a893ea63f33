use Rattle.std.proofs.Common.{Option, Some, sym, subst}
use Rattle.std.specs.Prelude.{IfSome}
use Rattle.tm_flat_stmts.specs.Flows.{FlowTerms, IsFlow, MakesJoinIfThere}
use Rattle.tm_flat_stmts.proofs.Flowing.{both_flows, first_flow}
use Rattle.tm_flat_stmts.proofs.flow.joined_with.Goals as goal

pub returns-in-None : goal.returns-in-None
returns-in-None c =
    subst (λ (o : Option FlowTerms). MakesJoinIfThere c.args.terms.now c.args.terms.now (Some c.args.first) o
    (Some c.args.first)) (sym c.in-None.is) (first_flow c.args.terms.now c.args.first c.requires.sound)

pub joined-requires-clause-flows : goal.joined-requires-clause-flows
joined-requires-clause-flows c =
    let x = c.requires.flows.0 in
    (x, c.requires.flows.1, subst (λ o. IfSome o (IsFlow x c.args.terms.now)) c.in-Some.is c.requires.flows.2)

pub returns-in_ok-flow-in-Some : goal.returns-in_ok-flow-in-Some
returns-in_ok-flow-in-Some c =
    subst (λ (o : Option FlowTerms). MakesJoinIfThere c.args.terms.now c.joined.new.terms (Some c.args.first) o
    (Some c.in_ok-flow-in-Some.flow)) (sym c.in-Some.is)
    (both_flows c.args.terms.now c.joined.new.terms c.args.first c.in-Some.other c.in_ok-flow-in-Some.flow
    c.in_ok-flow-in-Some.ensures)

use Rattle.std.proofs.Common.{Option, sym, subst}
use Rattle.std.specs.Prelude.{IfSome}
use Rattle.tm_flat_stmts.specs.Flows.{FlowTerms, IsFlow, MakesJoinIfThere}
use Rattle.tm_flat_stmts.proofs.Flowing.{second_flow}
use Rattle.tm_flat_stmts.proofs.flow.joined_flows.Goals as goal

pub returns-in-None : goal.returns-in-None
returns-in-None c =
    subst (λ (o : Option FlowTerms). MakesJoinIfThere c.args.terms.now c.args.terms.now o c.args.second c.args.second)
    (sym c.in-None.is) (second_flow c.args.terms.now c.args.second c.requires.sound)

pub joined_with-requires-clause-flows : goal.joined_with-requires-clause-flows
joined_with-requires-clause-flows c =
    let x = c.requires.flows.0 in
    (x, subst (λ o. IfSome o (IsFlow x c.args.terms.now)) c.in-Some.is c.requires.flows.1, c.requires.flows.2)

pub returns-in_ok-flow-in-Some : goal.returns-in_ok-flow-in-Some
returns-in_ok-flow-in-Some c =
    subst (λ (o : Option FlowTerms). MakesJoinIfThere c.args.terms.now c.joined_with.new.terms o c.args.second
    c.in_ok-flow-in-Some.flow) (sym c.in-Some.is) c.in_ok-flow-in-Some.ensures

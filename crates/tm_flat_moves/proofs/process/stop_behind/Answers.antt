use Rattle.std.proofs.Common.{Option, refl, sym, subst}
use Rattle.std.specs.Prelude.{IfSome}
use Rattle.tm_flat_stmts.specs.Flows.{FlowTerms, IsFlow}
use Rattle.tm_flat_moves.specs.Ended.{EndsBehind}
use Rattle.tm_flat_moves.proofs.process.stop_behind.Goals as goal

pub stop-requires-clause-flows : goal.stop-requires-clause-flows
stop-requires-clause-flows c =
    let x = c.requires.flows.0 in (
      x,
      c.requires.flows.1.stops c.args.number,
      subst (λ (o : Option FlowTerms). IfSome o (IsFlow x c.args.course.now.terms)) c.in-Some.is c.requires.flows.2,
    )

pub returns-in-None : goal.returns-in-None
returns-in-None c =
    subst (λ (o : Option FlowTerms). EndsBehind c.args.course.now.terms c.args.course.now.terms c.args.number o
    c.args.course.now.ends c.args.course.now.ends) (sym c.in-None.is) (refl, refl)

pub returns-in_ok-stop-in-Some : goal.returns-in_ok-stop-in-Some
returns-in_ok-stop-in-Some c =
    subst (λ (o : Option FlowTerms). EndsBehind c.args.course.now.terms c.stop.new.terms c.args.number o
    c.args.course.now.ends c.stop.new.self) (sym c.in-Some.is) c.in_ok-stop-in-Some.ensures

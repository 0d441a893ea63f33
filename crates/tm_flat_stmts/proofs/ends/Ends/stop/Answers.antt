use Rattle.std.proofs.Common.{◌<◌, Option, Some, length, slice_set, refl, sym, ap, subst}
use Rattle.std.specs.Prelude.{IfSome}
use Rattle.tm_flat_stmts.specs.Flows.{EndTerms, FlowTerms, IsFlow, MakesJoinIfThere, Stops, stop_of}
use Rattle.tm_flat_stmts.proofs.Stopping.{stop_taken, stopped_flow}
use Rattle.tm_flat_stmts.proofs.ends.Ends.stop.Goals as goal

pub joined_flows-requires-clause-flows : goal.joined_flows-requires-clause-flows
joined_flows-requires-clause-flows c =
    let x = c.requires.flows.0 in
    let old : EndTerms = record { stops = c.self.inside.stops.items; failed = c.self.inside.failed } in
    let within : c.args.number < length old.stops =
    subst (λ (e : EndTerms). c.args.number < length e.stops) (sym c.self.view_is) c.requires.within in
    let stops : IfSome (stop_of old c.args.number) (IsFlow x c.args.terms.now) =
    subst (λ (e : EndTerms). IfSome (stop_of e c.args.number) (IsFlow x c.args.terms.now)) (sym c.self.view_is)
    c.requires.flows.1 in (
      x,
      subst (λ (o : Option FlowTerms). IfSome o (IsFlow x c.args.terms.now))
          (stop_taken old c.args.number c.take-before.result c.index_mut.result.now within c.take-before.ensures.value
          c.index_mut.ensures.value)
          stops,
      c.requires.flows.2,
    )

pub returns : goal.returns
returns c =
    let old : EndTerms = record { stops = c.self.inside.stops.items; failed = c.self.inside.failed } in
    let new : EndTerms = record {
      stops = slice_set (slice_set c.self.inside.stops.items c.args.number c.take-before.new.self) c.args.number
          c.in_ok-joined.joined;
      failed = c.self.inside.failed;
    } in
    let within : c.args.number < length old.stops =
    subst (λ (e : EndTerms). c.args.number < length e.stops) (sym c.self.view_is) c.requires.within in
    subst (λ (e : EndTerms). Stops c.args.terms.now c.joined_flows.new.terms c.args.number c.args.flow e new)
    c.self.view_is
    (stopped_flow c.args.terms.now c.joined_flows.new.terms c.args.number c.args.flow old new c.in_ok-joined.joined
    within
    (subst (λ (o : Option FlowTerms). MakesJoinIfThere c.args.terms.now c.joined_flows.new.terms o (Some c.args.flow)
    c.in_ok-joined.joined)
    (sym (stop_taken old c.args.number c.take-before.result c.index_mut.result.now within c.take-before.ensures.value
    c.index_mut.ensures.value))
    c.in_ok-joined.ensures) refl
    (ap (λ (o : Option FlowTerms). slice_set (slice_set old.stops c.args.number o) c.args.number c.in_ok-joined.joined)
    c.take-before.ensures.after))

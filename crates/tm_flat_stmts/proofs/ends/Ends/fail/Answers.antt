use Rattle.std.proofs.Common.{refl, sym, subst}
use Rattle.tm_flat.specs.Steps.{IsTerm}
use Rattle.tm_flat_exprs.specs.Made.{IsTruth, truth_at}
use Rattle.tm_flat_exprs.proofs.Later.{truth_along}
use Rattle.tm_flat_stmts.specs.Flows.{EndTerms, Fails, FlowTerms}
use Rattle.tm_flat_stmts.proofs.Stopping.{failed_flow}
use Rattle.tm_flat_stmts.proofs.ends.Ends.fail.Goals as goal

pub where_true-requires-clause-test : goal.where_true-requires-clause-test
where_true-requires-clause-test c =
    subst (λ (f : FlowTerms). IsTerm c.args.terms.now 1 f.guard) (sym c.flow.view_is) c.requires.guard

pub either-requires-clause-first : goal.either-requires-clause-first
either-requires-clause-first c =
    truth_along c.args.terms.now c.where_true.new.terms c.self.inside.failed c.in_ok-fails.ensures.grown
    (subst (λ (e : EndTerms). IsTruth c.args.terms.now e.failed) (sym c.self.view_is) c.requires.failed)

pub returns : goal.returns
returns c =
    let f : FlowTerms = record {
      guard = c.flow.inside.guard;
      memory = c.flow.inside.memory;
      position = c.flow.inside.position;
    } in
    let old : EndTerms = record { stops = c.self.inside.stops.items; failed = c.self.inside.failed } in
    let new : EndTerms = record { stops = c.self.inside.stops.items; failed = c.in_ok-failed.failed } in
    subst (λ (e : EndTerms). Fails c.args.terms.now c.either.new.terms c.args.flow.now
    (λ u v. truth_at u v c.args.truth) e new) c.self.view_is
    (subst (λ (g : FlowTerms). Fails c.args.terms.now c.either.new.terms g (λ u v. truth_at u v c.args.truth) old new)
    c.flow.view_is
    (failed_flow c.args.terms.now c.where_true.new.terms c.either.new.terms f old new c.args.truth c.in_ok-fails.fails
    c.in_ok-failed.failed c.in_ok-fails.ensures c.in_ok-failed.ensures refl refl))

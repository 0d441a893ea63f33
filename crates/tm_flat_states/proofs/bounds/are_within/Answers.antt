use Rattle.std.proofs.Common.{ℕ, ◌<◌, ◌^◌, List, length, slice_index, sym, subst, ap, arith}
use Rattle.std.proofs.lemmas.List.{take_all}
use Rattle.tm_flat_states.specs.declared.bounds.Bound.{Bound}
use Rattle.tm_flat_states.specs.Bounds.{MakesTest, MeetAll, bound_number}
use Rattle.tm_flat_states.proofs.Bounding.{bounds_first, bounds_more, fit_at, fit_long}
use Rattle.tm_flat_states.proofs.bounds.are_within.Goals as goal

pub loop-index-init : goal.loop-index-init
loop-index-init c = bounds_first c.args.terms.now c.make.new.terms c.in_ok-all.all c.in_ok-all.ensures

pub and_within-requires-clause-input : goal.and_within-requires-clause-input
and_within-requires-clause-input c =
    let long = fit_long c.args.terms.now.inputs c.args.bounds.now c.requires.fit in
    let same = ap length c.loop-index.invariant.grown.inputs in
    omega (arith, long, same, c.loop-index-test.true)

pub and_within-requires-clause-within : goal.and_within-requires-clause-within
and_within-requires-clause-within c =
    subst (λ (ws : List ℕ). bound_number c.bound_at-bound.result < 2 ^ slice_index ws c.loop-index.index)
    (sym c.loop-index.invariant.grown.inputs)
    (fit_at c.args.terms.now.inputs c.args.bounds.now c.loop-index.index c.bound_at-bound.result c.requires.fit
    c.bound_at-bound.ensures)

pub loop-index-preserved : goal.loop-index-preserved
loop-index-preserved c =
    bounds_more c.args.terms.now c.loop-index.terms c.and_within.new.terms c.args.bounds.now c.loop-index.index
    c.bound_at-bound.result c.loop-index.all c.in_ok-all-2.all c.bound_at-bound.ensures c.requires.fit
    c.loop-index.invariant c.in_ok-all-2.ensures

pub returns : goal.returns
returns c =
    subst (λ (bs : List Bound). MakesTest c.args.terms.now c.loop-index.terms c.loop-index.all (λ u v. MeetAll bs v))
    (take_all c.loop-index.index c.args.bounds.now (omega (arith, c.loop-index-test.false)))
    c.loop-index.invariant

use Rattle.std.proofs.Common.{◌∙◌}
use Rattle.tm_syntax.specs.Design.View.{design_tree}
use Rattle.tm_sem.specs.Step.{IsState}
use Rattle.tm_flat_states.specs.Bounds.{valid_bounds}
use Rattle.tm_flat_states.proofs.BoundedStates.{valid_fit, valid_tells}
use Rattle.tm_flat_states.proofs.StateTerms.{few_bounds, fit_here, state_such}
use Rattle.tm_flat_states.proofs.marker.Marker.valid.Goals as goal

pub are_within-requires-clause-few : goal.are_within-requires-clause-few
are_within-requires-clause-few c =
    let d = design_tree c.args.self.now.design.now in
    few_bounds d c.requires.markable.few (valid_bounds d) c.as_slice.result.now
    (c.as_slice.ensures.value ∙ c.in_ok-bounds.ensures) (valid_fit d c.requires.markable.values
    c.requires.markable.small)

pub are_within-requires-clause-fit : goal.are_within-requires-clause-fit
are_within-requires-clause-fit c =
    let d = design_tree c.args.self.now.design.now in
    fit_here d c.args.terms.now.inputs (valid_bounds d) c.as_slice.result.now c.requires.inputs
    (c.as_slice.ensures.value ∙ c.in_ok-bounds.ensures) (valid_fit d c.requires.markable.values
    c.requires.markable.small)

pub returns : goal.returns
returns c =
    let d = design_tree c.args.self.now.design.now in
    state_such c.args.terms.now c.are_within.new.terms d (IsState d) (valid_bounds d) c.as_slice.result.now
    c.in_ok-id.id
    c.requires.inputs (c.as_slice.ensures.value ∙ c.in_ok-bounds.ensures)
    (λ v many. valid_tells d c.requires.markable.values v many) c.in_ok-id.ensures

use Rattle.std.proofs.Common.{◌≡◌, List, Some, sym, ap, ◌∙◌}
use Rattle.std.specs.Prelude.{slice_get}
use Rattle.std.proofs.lemmas.Option.{slice_get-get_or}
use Rattle.tm_syntax.specs.declared.design.Item.{Item}
use Rattle.tm_syntax.specs.Design.View.{design_tree}
use Rattle.tm_sem.specs.Play.{goal_expr}
use Rattle.tm_flat_exprs.specs.Tables.{cells_of}
use Rattle.tm_flat_states.proofs.StatedTerms.{inputs_along, more_stated}
use Rattle.tm_flat_states.proofs.marker.Marker.goal_terms.Goals as goal

pub goal-requires-clause-inputs : goal.goal-requires-clause-inputs
goal-requires-clause-inputs c =
    inputs_along (cells_of c.args.self.now.design.now) c.args.terms.now c.loop-goal.terms c.args.memory.now
    c.loop-goal.invariant.grown c.loop-goal.invariant.sound c.requires.inputs

pub loop-goal-preserved : goal.loop-goal-preserved
loop-goal-preserved c =
    let d = c.args.self.now.design.now in
    let i = c.loop-goal.goal-index in
    let items = c.deref-goal-items.result.now in
    let item = c.goal-item.result in
    let listed : slice_get d.goals.items i ≡ Some item =
    ap (λ (xs : List Item). slice_get xs i) (sym c.deref-goal-items.ensures.value)
    ∙ slice_get-get_or items i item c.loop-goal-test.true ∙ ap Some (sym c.goal-item.is) in
    more_stated (design_tree d) (goal_expr (design_tree d)) d.goals.items i item c.args.terms.now c.loop-goal.terms
    c.goal.new.terms c.loop-goal.ids.items c.push.new.self.items c.in_ok-id.id listed c.loop-goal.invariant
    c.in_ok-id.ensures
    c.in_ok-push.ensures.items

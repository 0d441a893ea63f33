use Rattle.std.proofs.Common.{◌≡◌, List, Some, sym, ap, ◌∙◌}
use Rattle.std.specs.Prelude.{slice_get}
use Rattle.std.proofs.lemmas.Option.{slice_get-get_or}
use Rattle.tm_syntax.specs.declared.design.Item.{Item}
use Rattle.tm_syntax.specs.Design.View.{design_tree}
use Rattle.tm_sem.specs.Fairness.{fair_expr}
use Rattle.tm_flat_exprs.specs.Tables.{cells_of}
use Rattle.tm_flat_states.proofs.StatedTerms.{inputs_along, more_stated}
use Rattle.tm_flat_states.proofs.marker.Marker.fair_terms.Goals as goal

pub fair-requires-clause-inputs : goal.fair-requires-clause-inputs
fair-requires-clause-inputs c =
    inputs_along (cells_of c.args.self.now.design.now) c.args.terms.now c.loop-fair.terms c.args.memory.now
    c.loop-fair.invariant.grown c.loop-fair.invariant.sound c.requires.inputs

pub loop-fair-preserved : goal.loop-fair-preserved
loop-fair-preserved c =
    let d = c.args.self.now.design.now in
    let i = c.loop-fair.fair-index in
    let items = c.deref-fair-items.result.now in
    let item = c.fair-item.result in
    let listed : slice_get d.fairs.items i ≡ Some item =
    ap (λ (xs : List Item). slice_get xs i) (sym c.deref-fair-items.ensures.value)
    ∙ slice_get-get_or items i item c.loop-fair-test.true ∙ ap Some (sym c.fair-item.is) in
    more_stated (design_tree d) (fair_expr (design_tree d)) d.fairs.items i item c.args.terms.now c.loop-fair.terms
    c.fair.new.terms c.loop-fair.ids.items c.push.new.self.items c.in_ok-id.id listed c.loop-fair.invariant
    c.in_ok-id.ensures
    c.in_ok-push.ensures.items

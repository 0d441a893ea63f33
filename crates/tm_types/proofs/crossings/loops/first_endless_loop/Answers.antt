use Rattle.std.proofs.Common.{◌≡◌, ◌<◌, length, get_or, refl, ap, ◌∙◌, arith}
use Rattle.std.specs.List.{flat_map}
use Rattle.std.proofs.lemmas.List.{take_all}
use Rattle.tm_base.specs.declared.place.Place.{Place}
use Rattle.tm_syntax.specs.declared.tree.Template.{Template}
use Rattle.tm_syntax.specs.Tree.{SpecTree}
use Rattle.tm_syntax.specs.Tree.View.{spec_tree, template_tree}
use Rattle.tm_syntax.specs.Scopes.Crossing.{call_crosses}
use Rattle.tm_scope.specs.Marks.{CallTable, is_marked}
use Rattle.tm_types.specs.Firsts.{first_of}
use Rattle.tm_types.specs.Inner.Crossings.{body_loops, in_bodies}
use Rattle.tm_types.proofs.EndlessLoops.{endless_loops-by_templates, marks_read, template_loops}
use Rattle.tm_names.proofs.FirstFaults.{first_more}
use Rattle.tm_types.proofs.crossings.loops.first_endless_loop.Goals as goal

pub loop-number-preserved : goal.loop-number-preserved
loop-number-preserved c =
    let spec : SpecTree = spec_tree c.args.spec.now in
    let t = c.template-item.result in
    let items = c.args.spec.now.templates.items in
    let same : c.as_slice-template-items.result.now ≡ items = c.as_slice-template-items.ensures.value in
    let within : c.loop-number.number < length items = omega (arith, ap length same) in
    let is : t ≡ get_or items c.loop-number.number t =
    c.template-item.is ∙ ap (λ ts. get_or ts c.loop-number.number t) same in
    let table : CallTable =
    record { spec = c.args.scopes.now; from = c.loop-number.number; tasks = c.args.marks.now } in
    let called : is_marked table ≡ call_crosses spec (template_tree t) =
    marks_read c.args.spec.now c.args.marks.now (call_crosses spec) c.requires.marked
    c.as_slice-template-items.result.now same c.loop-number.number t c.loop-number-test.true c.template-item.is
    c.args.scopes.now c.requires.same table refl in
    let found : c.in-Ok.given ≡ first_of (template_loops spec (template_tree t)) =
    c.in-Ok.ensures
    ∙ ap (λ calls. first_of (in_bodies (body_loops calls) (template_tree t))) called in
    first_more (λ (at : Place). at) (λ (u : Template). template_loops spec (template_tree u)) items
    c.loop-number.number t c.loop-number.first c.in-Ok.given c.earlier_place-first.result within is
    found c.earlier_place-first.ensures.earlier c.loop-number.invariant

pub returns : goal.returns
returns c =
    let spec : SpecTree = spec_tree c.args.spec.now in
    let items = c.args.spec.now.templates.items in
    c.loop-number.invariant
    ∙ ap (λ ts. first_of (flat_map (λ (u : Template). template_loops spec (template_tree u)) ts))
    (take_all c.loop-number.number items (omega (arith, ap length c.as_slice-template-items.ensures.value)))
    ∙ ap first_of (endless_loops-by_templates c.args.spec.now)

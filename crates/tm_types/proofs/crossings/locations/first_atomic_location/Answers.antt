use Rattle.std.proofs.Common.{◌≡◌, ◌<◌, length, get_or, refl, ap, ◌∙◌, arith}
use Rattle.std.specs.List.{flat_map}
use Rattle.std.proofs.lemmas.List.{take_all}
use Rattle.tm_base.specs.declared.place.Place.{Place}
use Rattle.tm_syntax.specs.declared.tree.Template.{Template}
use Rattle.tm_syntax.specs.Tree.{SpecTree}
use Rattle.tm_syntax.specs.Tree.View.{spec_tree, template_tree}
use Rattle.tm_syntax.specs.Faults.Crossings.{call_pauses}
use Rattle.tm_scope.specs.Marks.{CallTable, is_marked}
use Rattle.tm_types.specs.Firsts.{first_of}
use Rattle.tm_types.specs.Inner.Crossings.{task_locations_by}
use Rattle.tm_types.proofs.AtomicLocations.{atomic_locations-by_templates, template_locations}
use Rattle.tm_types.proofs.EndlessLoops.{marks_read}
use Rattle.tm_names.proofs.FirstFaults.{first_more}
use Rattle.tm_types.proofs.crossings.locations.first_atomic_location.Goals as goal

pub loop-number-preserved : goal.loop-number-preserved
loop-number-preserved c =
    let spec : SpecTree = spec_tree c.args.spec.now in
    let t = c.template-item.result in
    let items = c.args.spec.now.templates.items in
    let same : c.as_slice-template-items.result.now ≡ items = c.as_slice-template-items.ensures.value in
    let within : c.loop-number.number < length items = omega (arith, ap length same) in
    let is : t ≡ get_or items c.loop-number.number t =
    c.template-item.is ∙ ap (λ ts. get_or ts c.loop-number.number t) same in
    let table : CallTable =
    record { spec = c.args.scopes.now; from = c.loop-number.number; tasks = c.args.marks.now } in
    let called : is_marked table ≡ call_pauses spec (template_tree t) =
    marks_read c.args.spec.now c.args.marks.now (call_pauses spec) c.requires.marked
    c.as_slice-template-items.result.now same c.loop-number.number t c.loop-number-test.true c.template-item.is
    c.args.scopes.now c.requires.same table refl in
    let found : c.in-Ok.given ≡ first_of (template_locations spec (template_tree t)) =
    c.in-Ok.ensures
    ∙ ap (λ calls. first_of (flat_map (task_locations_by calls) (template_tree t).tasks)) called in
    first_more (λ (at : Place). at) (λ (u : Template). template_locations spec (template_tree u)) items
    c.loop-number.number t c.loop-number.first c.in-Ok.given c.earlier_place-first.result within is
    found c.earlier_place-first.ensures.earlier c.loop-number.invariant

pub returns : goal.returns
returns c =
    let spec : SpecTree = spec_tree c.args.spec.now in
    let items = c.args.spec.now.templates.items in
    c.loop-number.invariant
    ∙ ap (λ ts. first_of (flat_map (λ (u : Template). template_locations spec (template_tree u)) ts))
    (take_all c.loop-number.number items (omega (arith, ap length c.as_slice-template-items.ensures.value)))
    ∙ ap first_of (atomic_locations-by_templates c.args.spec.now)

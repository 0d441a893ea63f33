use Rattle.std.proofs.Common.{◌≡◌, ◌&&◌, position, length, get_or, refl, ap, ◌∙◌, arith}
use Rattle.std.proofs.lemmas.List.{take_all}
use Rattle.tm_syntax.specs.declared.tree.Template.{Template}
use Rattle.tm_syntax.specs.Tree.View.{spec_tree}
use Rattle.tm_syntax.specs.Scopes.Names.{is_spelled}
use Rattle.tm_scope.specs.Directory.{index_of}
use Rattle.tm_scope.proofs.Positions.{position-noted}
use Rattle.tm_names.specs.Inner.TemplateNumbers.{stands_first}
use Rattle.tm_names.proofs.names.text_names.template_numbers.Goals as goal

pub loop-number-preserved : goal.loop-number-preserved
loop-number-preserved c = λ name.
    let items = c.args.spec.now.templates.items in
    let same : c.as_slice-template-items.result.now ≡ items = c.as_slice-template-items.ensures.value in
    position-noted (λ (t : Template). is_spelled name t.name && stands_first (spec_tree c.args.spec.now) t.name) items
    c.loop-number.number c.template-item.result (index_of c.loop-number.numbers name)
    (index_of c.note_template.new.numbers name)
    (is_spelled name c.template-item.result.name
    && stands_first (spec_tree c.args.spec.now) c.template-item.result.name)
    (omega (arith, ap length same))
    (c.template-item.is ∙ ap (λ ts. get_or ts c.loop-number.number c.template-item.result) same) refl
    (c.in_ok-note_template.ensures (spec_tree c.args.spec.now) c.requires name) (c.loop-number.invariant name)

pub returns : goal.returns
returns c = λ name.
    let items = c.args.spec.now.templates.items in
    c.loop-number.invariant name
    ∙ ap (position (λ (t : Template). is_spelled name t.name && stands_first (spec_tree c.args.spec.now) t.name))
    (take_all c.loop-number.number items (omega (arith, ap length c.as_slice-template-items.ensures.value)))

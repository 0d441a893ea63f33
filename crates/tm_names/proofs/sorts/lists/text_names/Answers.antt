use Rattle.std.proofs.Common.{List, [], ◌++◌, map, sym, ap, ◌∙◌}
use mathlib.Core.List.{map-map}
use Rattle.std.specs.List.{flat_map}
use Rattle.std.proofs.lemmas.List.Folds.{flat_map-map}
use Rattle.tm_syntax.specs.declared.tree.EnumDef.{EnumDef}
use Rattle.tm_syntax.specs.declared.tree.Template.{Template}
use Rattle.tm_syntax.specs.Tree.{TemplateTree}
use Rattle.tm_syntax.specs.Tree.View.{enum_tree, template_tree}
use Rattle.tm_syntax.specs.Scopes.Declared.{declared, a_template}
use Rattle.tm_names.specs.Sorts.{all_declared}
use Rattle.tm_names.specs.Inner.ScopeParts.{enum_names}
use Rattle.tm_names.proofs.ListSteps.{two_more}
use Rattle.tm_names.proofs.sorts.lists.text_names.Goals as goal

pub returns : goal.returns
returns c =
    let spec = c.args.spec.now in
    let of_enums = λ (es : List EnumDef). flat_map (λ (e : EnumDef). enum_names (enum_tree e)) es in
    let of_templates = λ (ts : List Template).
    map (λ (t : Template). declared (a_template (template_tree t)) t.name) ts in
    let one = all_declared c.push_enums.new.all.items in
    let two = all_declared c.push_templates.new.all.items in
    two_more [] (of_enums spec.enums.items) (of_templates spec.templates.items) one two
    (c.in_ok-push_enums.ensures
    ∙ ap (λ xs. all_declared xs ++ of_enums c.as_slice.result.now) c.new-all.ensures.items
    ∙ ap of_enums c.as_slice.ensures.value)
    (c.in_ok-push_templates.ensures ∙ ap (λ ts. one ++ of_templates ts) c.as_slice-2.ensures.value)
    ∙ (λ i. sym (flat_map-map enum_names enum_tree spec.enums.items) i
    ++ sym (map-map (λ (t : TemplateTree). declared (a_template t) t.name) template_tree spec.templates.items) i)

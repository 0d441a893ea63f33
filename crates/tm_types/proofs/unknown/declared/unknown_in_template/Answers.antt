use Rattle.std.proofs.Common.{List, map, ap, ◌∙◌}
use Rattle.std.specs.List.{flat_map}
use Rattle.std.specs.Option.{option_to_list}
use Rattle.tm_syntax.specs.declared.tree.InstanceDef.{InstanceDef}
use Rattle.tm_syntax.specs.declared.tree.Port.{Port}
use Rattle.tm_syntax.specs.declared.tree.Spec.{Spec}
use Rattle.tm_syntax.specs.declared.tree.Template.{Template}
use Rattle.tm_syntax.specs.declared.tree.VarDef.{VarDef}
use Rattle.tm_syntax.specs.Tree.{VarTree}
use Rattle.tm_syntax.specs.Tree.View.{instance_tree, spec_tree, template_tree, var_tree}
use Rattle.tm_syntax.specs.Scopes.Declared.{text_sort}
use Rattle.tm_syntax.specs.Faults.Marks.{first_mark}
use Rattle.tm_syntax.specs.Faults.Names.{undeclared, unknown_in_instance, unknown_literal, unknown_type}
use Rattle.tm_scope.specs.Context.{context_of}
use Rattle.tm_names.specs.Parts.{listed_types}
use Rattle.tm_types.proofs.unknown.declared.unknown_in_template.Goals as goal

pub returns : goal.returns
returns c =
    let at = context_of c.args.site.now in
    let t : Template = c.args.template.now in
    c.earliest_of_four.ensures _ _ _ _
    (c.unknown_ports-in_ports.ensures
    ∙ ap (λ (s : Spec). first_mark
    (flat_map (λ (p : Port). undeclared (text_sort (spec_tree s) p.template.text) p.template)
    c.as_slice.result.now)) c.names.ensures
    ∙ ap (λ (ps : List Port). first_mark (flat_map (λ (p : Port). undeclared (text_sort at.spec p.template.text)
    p.template) ps)) c.as_slice.ensures.value)
    (c.unknown_in_instances-in_instances.ensures
    ∙ ap (λ (xs : List InstanceDef). first_mark (flat_map (unknown_in_instance at.spec at.template)
    (map instance_tree xs))) c.as_slice-2.ensures.value
    ∙ ap (λ (u : Template). first_mark (flat_map (unknown_in_instance at.spec (template_tree u))
    (map instance_tree t.instances.items))) c.requires)
    (c.unknown_types-in_types.ensures
    ∙ ap (λ (s : Spec). first_mark (flat_map (unknown_type (spec_tree s)) (listed_types c.as_slice-3.result.now)))
    c.names-2.ensures
    ∙ ap (λ xs. first_mark (flat_map (unknown_type at.spec) (listed_types xs))) c.as_slice-3.ensures.value
    ∙ ap (λ xs. first_mark (flat_map (unknown_type at.spec) xs)) c.in-Ok.ensures)
    (c.unknown_inits-in_literals.ensures
    ∙ ap (λ (s : Spec). first_mark (flat_map (λ (v : VarTree). flat_map (unknown_literal (spec_tree s))
    (option_to_list v.init)) (map var_tree c.as_slice-4.result.now))) c.names-3.ensures
    ∙ ap (λ (vs : List VarDef). first_mark (flat_map (λ (v : VarTree). flat_map (unknown_literal at.spec)
    (option_to_list v.init)) (map var_tree vs))) c.as_slice-4.ensures.value)

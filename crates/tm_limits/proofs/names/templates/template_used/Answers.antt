use Rattle.std.proofs.Common.{List, [], ◌∷◌, ◌++◌, map, ap, ◌∙◌}
use Rattle.std.specs.List.{flat_map}
use Rattle.std.specs.Option.{option_to_list}
use Rattle.std.proofs.lemmas.List.Concat.{flat_map_single}
use Rattle.tm_syntax.specs.declared.tree.Ident.{Ident}
use Rattle.tm_syntax.specs.declared.tree.Port.{Port}
use Rattle.tm_syntax.specs.Tree.{InstanceTree, VarTree}
use Rattle.tm_syntax.specs.Tree.View.{instance_tree, template_tree, var_tree}
use Rattle.tm_syntax.specs.Scopes.Parts.{template_types}
use Rattle.tm_syntax.specs.Faults.Limits.{type_names}
use Rattle.tm_limits.specs.LongNames.{expr_names, first_long}
use Rattle.tm_limits.proofs.LongNames.{long_joined}
use Rattle.tm_limits.proofs.names.templates.template_used.Goals as goal

pub returns : goal.returns
returns c =
    let t = template_tree c.args.template.now in
    let ports = map (λ (p : Port). p.template) t.ports in
    let instances : List Ident = flat_map (λ (i : InstanceTree). i.template ∷ i.args) t.instances in
    let types : List Ident = flat_map type_names (template_types t) in
    let literals : List Ident = flat_map (λ (v : VarTree). flat_map expr_names (option_to_list v.init)) t.vars in
    long_joined _ _ _ (ports ++ instances ++ types) literals c.earlier.ensures
    (long_joined _ _ _ (ports ++ instances) types c.earlier-types.ensures
    (long_joined _ _ _ ports instances c.earlier-instances.ensures
    (c.ports_used-ports.ensures ∙ ap (λ ps. first_long (flat_map (λ (p : Port). p.template ∷ []) ps))
    c.as_slice.ensures.value ∙ ap first_long (flat_map_single (λ (p : Port). p.template) t.ports))
    (c.instances_used.ensures ∙ ap (λ is. first_long (flat_map (λ (i : InstanceTree). i.template ∷ i.args)
    (map instance_tree is))) c.as_slice-2.ensures.value)) c.types_used.ensures)
    (c.literals_used.ensures ∙ ap (λ vs. first_long (flat_map (λ (v : VarTree).
    flat_map expr_names (option_to_list v.init)) (map var_tree vs))) c.as_slice-3.ensures.value)

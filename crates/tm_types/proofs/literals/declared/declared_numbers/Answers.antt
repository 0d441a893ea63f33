use Rattle.std.proofs.Common.{◌≡◌, List, map, ap, ◌∙◌}
use Rattle.std.specs.List.{flat_map}
use Rattle.tm_syntax.specs.declared.tree.VarDef.{VarDef}
use Rattle.tm_syntax.specs.Tree.View.{template_tree, var_tree}
use Rattle.tm_syntax.specs.Scopes.Parts.{template_types}
use Rattle.tm_syntax.specs.Faults.Literals.{type_numbers, var_numbers}
use Rattle.tm_types.specs.Firsts.{first_of}
use Rattle.tm_names.specs.Parts.{listed_types}
use Rattle.tm_types.proofs.literals.declared.declared_numbers.Goals as goal

pub returns : goal.returns
returns c =
    let t = c.args.template.now in
    let in_types :
    c.types_numbers-in_types.result ≡ first_of (flat_map type_numbers (template_types (template_tree t))) =
    c.types_numbers-in_types.ensures
    ∙ ap (λ xs. first_of (flat_map type_numbers (listed_types xs))) c.as_slice.ensures.value
    ∙ ap (λ xs. first_of (flat_map type_numbers xs)) c.in-Ok.ensures in
    let in_vars : c.vars_numbers-in_vars.result ≡ first_of (flat_map var_numbers (template_tree t).vars) =
    c.vars_numbers-in_vars.ensures
    ∙ ap (λ (vs : List VarDef). first_of (flat_map var_numbers (map var_tree vs))) c.as_slice-2.ensures.value in
    c.earlier_place.ensures.joined _ _ in_types in_vars

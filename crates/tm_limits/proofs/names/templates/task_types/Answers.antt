use Rattle.std.proofs.Common.{List, ◌++◌, map, ap, ◌∙◌}
use Rattle.std.specs.List.{flat_map}
use Rattle.std.specs.Option.{option_to_list}
use Rattle.tm_syntax.specs.declared.tree.Ident.{Ident}
use Rattle.tm_syntax.specs.declared.tree.Param.{Param}
use Rattle.tm_syntax.specs.Tree.{LocalTree}
use Rattle.tm_syntax.specs.Tree.View.{local_tree, task_tree}
use Rattle.tm_syntax.specs.Scopes.Parts.{written_result}
use Rattle.tm_syntax.specs.Faults.Limits.{type_names}
use Rattle.tm_limits.specs.LongNames.{first_long}
use Rattle.tm_limits.proofs.LongNames.{long_joined}
use Rattle.tm_limits.proofs.names.templates.task_types.Goals as goal

pub returns : goal.returns
returns c =
    let k = task_tree c.args.task.now in
    let result : List Ident = flat_map type_names (option_to_list (written_result k.kind)) in
    let params : List Ident = flat_map (λ (p : Param). type_names p.ty) k.params in
    let locals : List Ident = flat_map (λ (l : LocalTree). type_names l.ty) k.body.locals in
    long_joined _ _ _ (result ++ params) locals c.earlier.ensures
    (long_joined _ _ _ result params c.earlier-head.ensures c.result_type.ensures
    (c.params_types.ensures ∙ ap (λ ps. first_long (flat_map (λ (p : Param). type_names p.ty) ps))
    c.as_slice.ensures.value))
    (c.locals_types.ensures ∙ ap (λ ls. first_long (flat_map (λ (l : LocalTree). type_names l.ty)
    (map local_tree ls))) c.as_slice-2.ensures.value)

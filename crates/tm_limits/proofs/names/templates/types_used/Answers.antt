use Rattle.std.proofs.Common.{List, ◌++◌, map, sym, ap, ◌∙◌}
use Rattle.std.specs.List.{flat_map}
use Rattle.tm_syntax.specs.declared.tree.Ident.{Ident}
use Rattle.tm_syntax.specs.Tree.{LocalTree, ProcessTree, VarTree}
use Rattle.tm_syntax.specs.Tree.View.{process_tree, task_tree, template_tree, var_tree}
use Rattle.tm_syntax.specs.Faults.Limits.{type_names}
use Rattle.tm_limits.specs.LongNames.{first_long, task_types}
use Rattle.tm_limits.proofs.LongNames.{long_joined, template_types-names}
use Rattle.tm_limits.proofs.names.templates.types_used.Goals as goal

pub returns : goal.returns
returns c =
    let t = template_tree c.args.template.now in
    let vars : List Ident = flat_map (λ (v : VarTree). type_names v.ty) t.vars in
    let processes : List Ident =
    flat_map (λ (p : ProcessTree). flat_map (λ (l : LocalTree). type_names l.ty) p.body.locals) t.processes in
    let tasks : List Ident = flat_map task_types t.tasks in
    long_joined _ _ _ (vars ++ processes) tasks c.earlier.ensures
    (long_joined _ _ _ vars processes c.earlier-processes.ensures
    (c.vars_types-vars.ensures ∙ ap (λ vs. first_long (flat_map (λ (v : VarTree). type_names v.ty) (map var_tree vs)))
    c.as_slice.ensures.value)
    (c.processes_types.ensures ∙ ap (λ ps. first_long (flat_map (λ (p : ProcessTree).
    flat_map (λ (l : LocalTree). type_names l.ty) p.body.locals) (map process_tree ps))) c.as_slice-2.ensures.value))
    (c.tasks_types.ensures ∙ ap (λ ks. first_long (flat_map task_types (map task_tree ks))) c.as_slice-3.ensures.value)
    ∙ ap first_long (sym (template_types-names t))

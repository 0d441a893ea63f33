use Rattle.std.proofs.Common.{List, [], ◌∷◌, ◌++◌, map, ap, ◌∙◌}
use Rattle.std.specs.List.{flat_map}
use Rattle.std.proofs.lemmas.List.Concat.{flat_map_single}
use Rattle.tm_syntax.specs.declared.tree.Ident.{Ident}
use Rattle.tm_syntax.specs.declared.tree.Param.{Param}
use Rattle.tm_syntax.specs.declared.tree.Port.{Port}
use Rattle.tm_syntax.specs.Tree.{InstanceTree, LocalTree, NamedTree, ProcessTree, TaskTree, VarTree}
use Rattle.tm_syntax.specs.Tree.View.{instance_tree, named_tree, process_tree, task_tree, template_tree, var_tree}
use Rattle.tm_limits.specs.LongNames.{first_long}
use Rattle.tm_limits.proofs.LongNames.{both_named, long_joined, long_next}
use Rattle.tm_limits.proofs.names.templates.template_declared.Goals as goal

pub returns : goal.returns
returns c =
    let t = template_tree c.args.template.now in
    let ports = t.name ∷ map (λ (p : Port). p.name) t.ports in
    let instances = ports ++ map (λ (i : InstanceTree). i.name) t.instances in
    let vars = instances ++ map (λ (v : VarTree). v.name) t.vars in
    let goals = vars ++ map (λ (n : NamedTree). n.name) t.goals in
    let named = vars ++ map (λ (n : NamedTree). n.name) (t.goals ++ t.fairs) in
    let processes : List Ident =
    flat_map (λ (p : ProcessTree). p.name ∷ map (λ (l : LocalTree). l.name) p.body.locals) t.processes in
    let tasks : List Ident =
    flat_map (λ (k : TaskTree). k.name ∷ map (λ (p : Param). p.name) k.params
    ++ map (λ (l : LocalTree). l.name) k.body.locals) t.tasks in
    long_joined _ _ _ (named ++ processes) tasks c.earlier.ensures
    (long_joined _ _ _ named processes c.earlier-processes.ensures
    (long_next _ _ _ goals _ _ c.earlier-fairs.ensures
    (long_next _ _ _ vars _ _ c.earlier-goals.ensures
    (long_next _ _ _ instances _ _ c.earlier-vars.ensures
    (long_next _ _ _ ports _ _ c.earlier-instances.ensures
    (long_next _ _ _ (t.name ∷ []) _ _ c.earlier-ports.ensures c.long.ensures
    (c.ports_declared.ensures ∙ ap (λ ps. first_long (flat_map (λ (p : Port). p.name ∷ []) ps))
    c.as_slice.ensures.value) (flat_map_single (λ (p : Port). p.name) t.ports))
    (c.instances_declared.ensures ∙ ap (λ is. first_long (flat_map (λ (i : InstanceTree). i.name ∷ [])
    (map instance_tree is))) c.as_slice-2.ensures.value)
    (flat_map_single (λ (i : InstanceTree). i.name) t.instances))
    (c.vars_declared.ensures ∙ ap (λ vs. first_long (flat_map (λ (v : VarTree). v.name ∷ []) (map var_tree vs)))
    c.as_slice-3.ensures.value) (flat_map_single (λ (v : VarTree). v.name) t.vars))
    (c.named_declared.ensures ∙ ap (λ ns. first_long (flat_map (λ (n : NamedTree). n.name ∷ []) (map named_tree ns)))
    c.as_slice-4.ensures.value) (flat_map_single (λ (n : NamedTree). n.name) t.goals))
    (c.named_declared-2.ensures ∙ ap (λ ns. first_long (flat_map (λ (n : NamedTree). n.name ∷ []) (map named_tree ns)))
    c.as_slice-5.ensures.value) (flat_map_single (λ (n : NamedTree). n.name) t.fairs)
    ∙ ap first_long (both_named vars t.goals t.fairs))
    (c.processes_declared.ensures ∙ ap (λ ps. first_long (flat_map (λ (p : ProcessTree).
    p.name ∷ map (λ (l : LocalTree). l.name) p.body.locals) (map process_tree ps))) c.as_slice-6.ensures.value))
    (c.tasks_declared.ensures ∙ ap (λ ks. first_long (flat_map (λ (k : TaskTree).
    k.name ∷ map (λ (p : Param). p.name) k.params ++ map (λ (l : LocalTree). l.name) k.body.locals)
    (map task_tree ks))) c.as_slice-7.ensures.value)

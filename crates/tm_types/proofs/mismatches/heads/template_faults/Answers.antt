use Rattle.std.proofs.Common.{◌≡◌, List, ◌++◌, map, ap, ◌∙◌}
use Rattle.std.specs.List.{flat_map}
use Rattle.tm_syntax.specs.declared.tree.Port.{Port}
use Rattle.tm_syntax.specs.declared.tree.TaskDef.{TaskDef}
use Rattle.tm_syntax.specs.declared.tree.VarDef.{VarDef}
use Rattle.tm_syntax.specs.Tree.{SpecTree}
use Rattle.tm_syntax.specs.Tree.View.{instance_tree, spec_tree, task_tree, template_tree, var_tree}
use Rattle.tm_syntax.specs.Scopes.Declared.{text_sort}
use Rattle.tm_syntax.specs.Scopes.Parts.{template_types}
use Rattle.tm_syntax.specs.Faults.Mismatches as text
use Rattle.tm_types.specs.Firsts.{first_of}
use Rattle.tm_names.specs.Parts.{listed_types}
use Rattle.tm_types.specs.Inner.HeadFaults.{main_faults}
use Rattle.tm_types.proofs.mismatches.heads.template_faults.Goals as goal

pub returns : goal.returns
returns c =
    let at = c.args.at.now in
    let spec : SpecTree = spec_tree at.spec in
    let t = c.args.template.now in
    let port = λ (s : SpecTree) (p : Port). text.misnamed text.is_template (text_sort s p.template.text) p.template in
    let ports = flat_map (port spec) t.ports.items in
    let types = flat_map (text.type_faults spec) (template_types (template_tree t)) in
    let vars = flat_map (text.var_faults spec) (map var_tree t.vars.items) in
    let instances = flat_map (text.instance_faults spec (template_tree t)) (map instance_tree t.instances.items) in
    let tasks = flat_map text.task_faults (map task_tree t.tasks.items) in
    let in_ports : c.ports_faults-of_ports.result ≡ first_of ports =
    c.ports_faults-of_ports.ensures
    ∙ (λ i. first_of (flat_map (port (spec_tree (c.names.ensures i))) (c.as_slice.ensures.value i))) in
    let in_types : c.types_faults-of_types.result ≡ first_of types =
    c.types_faults-of_types.ensures
    ∙ (λ i. first_of (flat_map (text.type_faults (spec_tree (c.names-2.ensures i)))
    (listed_types (c.as_slice-2.ensures.value i))))
    ∙ ap (λ ts. first_of (flat_map (text.type_faults spec) ts)) c.in-Ok.ensures in
    let in_vars : c.vars_faults-of_vars.result ≡ first_of vars =
    c.vars_faults-of_vars.ensures
    ∙ ap (λ (vs : List VarDef). first_of (flat_map (text.var_faults spec) (map var_tree vs)))
    c.as_slice-3.ensures.value in
    let in_instances : c.instances_faults-of_instances.result ≡ first_of instances =
    c.instances_faults-of_instances.ensures
    ∙ (λ i. first_of (flat_map (text.instance_faults spec (template_tree (c.requires i)))
    (map instance_tree (c.as_slice-4.ensures.value i)))) in
    let in_tasks : c.tasks_faults-of_tasks.result ≡ first_of tasks =
    c.tasks_faults-of_tasks.ensures
    ∙ ap (λ (ks : List TaskDef). first_of (flat_map text.task_faults (map task_tree ks))) c.as_slice-5.ensures.value in
    let main = main_faults (template_tree t) in
    c.earlier_place.ensures.joined (main ++ ports ++ types ++ vars ++ instances) tasks
    (c.earlier_place-to_instances.ensures.joined (main ++ ports ++ types ++ vars) instances
    (c.earlier_place-to_vars.ensures.joined (main ++ ports ++ types) vars
    (c.earlier_place-to_types.ensures.joined (main ++ ports) types
    (c.earlier_place-in_head.ensures.joined main ports c.main_faults-of_main.ensures in_ports)
    in_types) in_vars) in_instances) in_tasks

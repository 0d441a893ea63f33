use Rattle.std.proofs.Common.{map, ap, ◌∙◌, ◌++◌}
use Rattle.std.specs.List.{flat_map}
use Rattle.tm_syntax.specs.Tree.{ProcessTree, TaskTree}
use Rattle.tm_syntax.specs.Tree.View.{named_tree, process_tree, task_tree, template_tree}
use Rattle.tm_limits.specs.LongNames.{body_names, condition_names, first_long}
use Rattle.tm_limits.proofs.LongNames.{long_joined}
use Rattle.tm_limits.proofs.names.bodies.template_long.Goals as goal

pub returns : goal.returns
returns c =
    let sought = c.args.sought in
    let t = template_tree c.args.template.now in
    let processes = flat_map (λ (p : ProcessTree). body_names sought p.body) t.processes in
    let tasks = flat_map (λ (k : TaskTree). body_names sought k.body) t.tasks in
    let goals = condition_names sought t.goals in
    let fairs = condition_names sought t.fairs in
    long_joined _ _ _ (processes ++ tasks ++ goals) fairs c.earlier.ensures
    (long_joined _ _ _ (processes ++ tasks) goals c.earlier-goals.ensures
    (long_joined _ _ _ processes tasks c.earlier-bodies.ensures
    (c.processes_long.ensures ∙ ap (λ ps. first_long (flat_map (λ (p : ProcessTree). body_names sought p.body)
    (map process_tree ps))) c.as_slice.ensures.value)
    (c.tasks_long.ensures ∙ ap (λ ks. first_long (flat_map (λ (k : TaskTree). body_names sought k.body)
    (map task_tree ks))) c.as_slice-2.ensures.value))
    (c.conditions_long.ensures ∙ ap (λ ns. first_long (condition_names sought (map named_tree ns)))
    c.as_slice-3.ensures.value))
    (c.conditions_long-2.ensures ∙ ap (λ ns. first_long (condition_names sought (map named_tree ns)))
    c.as_slice-4.ensures.value)

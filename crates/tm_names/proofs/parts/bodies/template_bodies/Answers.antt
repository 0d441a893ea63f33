use Rattle.std.proofs.Common.{[], ◌++◌, ap, ◌∙◌}
use Rattle.tm_syntax.specs.Tree.View.{spec_tree, template_tree}
use Rattle.tm_names.specs.Bodies.{all_bodies}
use Rattle.tm_names.specs.Inner.BodyLists.{process_bodies, task_bodies}
use Rattle.tm_names.proofs.ListSteps.{two_more}
use Rattle.tm_names.proofs.parts.bodies.template_bodies.Goals as goal

pub returns : goal.returns
returns c =
    let spec = spec_tree c.args.names.now in
    let t = c.args.template.now in
    two_more [] (process_bodies spec (template_tree t) 0 t.processes.items)
    (task_bodies spec (template_tree t) 0 t.tasks.items) (all_bodies c.push_process_bodies.new.bodies.items)
    (all_bodies c.push_task_bodies.new.bodies.items)
    (c.in_ok-push_process_bodies.ensures
    ∙ ap (λ xs. all_bodies xs ++ process_bodies spec (template_tree t) 0 t.processes.items) c.new-bodies.ensures.items)
    c.in_ok-push_task_bodies.ensures

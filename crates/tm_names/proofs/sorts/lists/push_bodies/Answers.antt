use Rattle.std.proofs.Common.{map}
use Rattle.tm_syntax.specs.Tree.{ProcessTree, TaskTree}
use Rattle.tm_syntax.specs.Tree.View.{process_tree, task_tree}
use Rattle.tm_syntax.specs.Scopes.Declared.{declared, a_part, a_task}
use Rattle.tm_names.specs.Sorts.{all_declared}
use Rattle.tm_names.proofs.ListSteps.{two_more, pushed_as}
use Rattle.tm_names.proofs.sorts.lists.push_bodies.Goals as goal

pub returns : goal.returns
returns c =
    let t = c.args.template.now in
    let old = all_declared c.args.all.now.items in
    let one = all_declared c.push_declared.new.all.items in
    let two = all_declared c.push_declared-2.new.all.items in
    two_more old (map (λ (p : ProcessTree). declared a_part p.name) (map process_tree t.processes.items))
    (map (λ (k : TaskTree). declared a_task k.name) (map task_tree t.tasks.items)) one two
    (pushed_as (λ (p : ProcessTree). declared a_part p.name) process_tree c.as_slice.result.now t.processes.items
    old one c.in_ok-push_declared.ensures c.as_slice.ensures.value)
    (pushed_as (λ (k : TaskTree). declared a_task k.name) task_tree c.as_slice-2.result.now t.tasks.items one two
    c.in_ok-push_declared-2.ensures c.as_slice-2.ensures.value)

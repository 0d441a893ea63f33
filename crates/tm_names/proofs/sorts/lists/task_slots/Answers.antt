use Rattle.std.proofs.Common.{[], ◌++◌, map, ap, ◌∙◌}
use Rattle.tm_syntax.specs.Tree.{LocalTree}
use Rattle.tm_syntax.specs.Tree.View.{local_tree}
use Rattle.tm_syntax.specs.declared.tree.Param.{Param}
use Rattle.tm_syntax.specs.Scopes.Declared.{declared, a_slot}
use Rattle.tm_names.specs.Sorts.{all_declared}
use Rattle.tm_names.proofs.ListSteps.{two_more, pushed, pushed_as}
use Rattle.tm_names.proofs.sorts.lists.task_slots.Goals as goal

pub returns : goal.returns
returns c =
    let task = c.args.task.now in
    let one = all_declared c.push_declared.new.all.items in
    let two = all_declared c.push_declared-2.new.all.items in
    two_more [] (map (λ (p : Param). declared a_slot p.name) task.params.items)
    (map (λ (l : LocalTree). declared a_slot l.name) (map local_tree task.body.locals.items)) one two
    (pushed (λ (p : Param). declared a_slot p.name) c.as_slice.result.now task.params.items [] one
    (c.in_ok-push_declared.ensures
    ∙ ap (λ xs. all_declared xs ++ map (λ (p : Param). declared a_slot p.name) c.as_slice.result.now)
    c.new-all.ensures.items)
    c.as_slice.ensures.value)
    (pushed_as (λ (l : LocalTree). declared a_slot l.name) local_tree c.as_slice-2.result.now task.body.locals.items
    one two c.in_ok-push_declared-2.ensures c.as_slice-2.ensures.value)

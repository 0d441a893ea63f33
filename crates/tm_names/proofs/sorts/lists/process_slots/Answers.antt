use Rattle.std.proofs.Common.{[], ◌++◌, map, ap, ◌∙◌}
use Rattle.tm_syntax.specs.Tree.{LocalTree}
use Rattle.tm_syntax.specs.Tree.View.{local_tree}
use Rattle.tm_syntax.specs.declared.tree.LocalDef.{LocalDef}
use Rattle.tm_syntax.specs.Scopes.Declared.{declared, a_slot}
use Rattle.tm_names.specs.Sorts.{all_declared}
use Rattle.tm_names.proofs.ListSteps.{pushed_as}
use Rattle.tm_names.proofs.sorts.lists.process_slots.Goals as goal

pub returns : goal.returns
returns c =
    pushed_as (λ (l : LocalTree). declared a_slot l.name) local_tree c.as_slice.result.now
    c.args.process.now.body.locals.items [] (all_declared c.push_declared.new.all.items)
    (c.in_ok-push_declared.ensures
    ∙ ap (λ xs. all_declared xs ++ map (λ (l : LocalDef). declared a_slot l.name) c.as_slice.result.now)
    c.new-all.ensures.items)
    c.as_slice.ensures.value

use Rattle.std.proofs.Common.{◌≡◌, ◌++◌, map, drop}
use Rattle.std.specs.List.{flat_map}
use Rattle.tm_syntax.specs.Tree.View.{spec_tree, task_tree, template_tree}
use Rattle.tm_syntax.specs.Design.{task_vars}
use Rattle.tm_inst.proofs.vars.push_tasks.Given as goal

abbrev pub invariant-loop-index : goal.invariant-loop-index
invariant-loop-index l =
    l.vars.items
    ++ flat_map (task_vars (spec_tree l.scopes) (template_tree l.template) l.number l.base)
    (map task_tree (drop l.index l.tasks))
    ≡ l.initial.vars.items
    ++ flat_map (task_vars (spec_tree l.scopes) (template_tree l.template) l.number l.base)
    (map task_tree l.template.tasks.items)

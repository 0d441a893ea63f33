use Rattle.std.proofs.Common.{◌≡◌, ◌++◌, map, drop}
use Rattle.tm_syntax.specs.declared.tree.Template.{Template}
use Rattle.tm_syntax.specs.Scopes.Declared.{declared, a_template}
use Rattle.tm_syntax.specs.Tree.View.{template_tree}
use Rattle.tm_names.specs.Sorts.{all_declared}
use Rattle.tm_names.proofs.sorts.lists.push_templates.Given as goal

abbrev pub invariant-loop-number : goal.invariant-loop-number
invariant-loop-number l =
    all_declared l.all.items
    ++ map (λ (t : Template). declared (a_template (template_tree t)) t.name) (drop l.number l.templates)
    ≡ all_declared l.initial.all.items
    ++ map (λ (t : Template). declared (a_template (template_tree t)) t.name) l.templates

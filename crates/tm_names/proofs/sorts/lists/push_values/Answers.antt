use Rattle.std.proofs.Common.{map}
use Rattle.tm_syntax.specs.Tree.{NamedTree, VarTree}
use Rattle.tm_syntax.specs.Tree.View.{named_tree, var_tree}
use Rattle.tm_syntax.specs.Scopes.Declared.{declared, a_part, var_sort}
use Rattle.tm_names.specs.Sorts.{all_declared}
use Rattle.tm_names.proofs.ListSteps.{three_more, pushed_as}
use Rattle.tm_names.proofs.sorts.lists.push_values.Goals as goal

pub returns : goal.returns
returns c =
    let t = c.args.template.now in
    let old = all_declared c.args.all.now.items in
    let one = all_declared c.push_declared.new.all.items in
    let two = all_declared c.push_declared-2.new.all.items in
    let three = all_declared c.push_declared-3.new.all.items in
    three_more old (map (λ (v : VarTree). declared (var_sort v) v.name) (map var_tree t.vars.items))
    (map (λ (g : NamedTree). declared a_part g.name) (map named_tree t.goals.items))
    (map (λ (f : NamedTree). declared a_part f.name) (map named_tree t.fairs.items)) one two three
    (pushed_as (λ (v : VarTree). declared (var_sort v) v.name) var_tree c.as_slice.result.now t.vars.items old one
    c.in_ok-push_declared.ensures c.as_slice.ensures.value)
    (pushed_as (λ (g : NamedTree). declared a_part g.name) named_tree c.as_slice-2.result.now t.goals.items one two
    c.in_ok-push_declared-2.ensures c.as_slice-2.ensures.value)
    (pushed_as (λ (f : NamedTree). declared a_part f.name) named_tree c.as_slice-3.result.now t.fairs.items two three
    c.in_ok-push_declared-3.ensures c.as_slice-3.ensures.value)

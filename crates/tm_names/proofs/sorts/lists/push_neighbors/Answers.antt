use Rattle.std.proofs.Common.{map}
use Rattle.tm_syntax.specs.declared.tree.Port.{Port}
use Rattle.tm_syntax.specs.Tree.{InstanceTree}
use Rattle.tm_syntax.specs.Tree.View.{instance_tree}
use Rattle.tm_syntax.specs.Scopes.Declared.{declared, a_neighbor}
use Rattle.tm_names.specs.Sorts.{all_declared}
use Rattle.tm_names.proofs.ListSteps.{two_more, pushed, pushed_as}
use Rattle.tm_names.proofs.sorts.lists.push_neighbors.Goals as goal

pub returns : goal.returns
returns c =
    let t = c.args.template.now in
    let old = all_declared c.args.all.now.items in
    let one = all_declared c.push_declared.new.all.items in
    let two = all_declared c.push_declared-2.new.all.items in
    two_more old (map (λ (p : Port). declared (a_neighbor p.template) p.name) t.ports.items)
    (map (λ (i : InstanceTree). declared (a_neighbor i.template) i.name) (map instance_tree t.instances.items)) one two
    (pushed (λ (p : Port). declared (a_neighbor p.template) p.name) c.as_slice.result.now t.ports.items old one
    c.in_ok-push_declared.ensures c.as_slice.ensures.value)
    (pushed_as (λ (i : InstanceTree). declared (a_neighbor i.template) i.name) instance_tree c.as_slice-2.result.now
    t.instances.items one two c.in_ok-push_declared-2.ensures c.as_slice-2.ensures.value)

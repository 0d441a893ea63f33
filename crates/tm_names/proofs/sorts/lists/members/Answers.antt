use Rattle.std.proofs.Common.{◌≡◌, List, [], ◌++◌, map, append_assoc, sym, ap, ◌∙◌}
use Rattle.tm_syntax.specs.declared.tree.Port.{Port}
use Rattle.tm_syntax.specs.Tree.{InstanceTree, NamedTree, ProcessTree, TaskTree, VarTree}
use Rattle.tm_syntax.specs.Tree.View.{template_tree}
use Rattle.tm_syntax.specs.Scopes.Declared as text
use Rattle.tm_names.specs.Sorts.{all_declared}
use Rattle.tm_names.specs.Inner.ScopeParts.{body_members, neighbor_members, value_members}
use Rattle.tm_names.proofs.ListSteps.{three_more}
use Rattle.tm_names.proofs.sorts.lists.members.Goals as goal

-- the members by their parts, as they stand in a row
in_a_row : {X : Type 0} (p i v g f r k : List X) →
    (p ++ i) ++ (v ++ g ++ f) ++ (r ++ k) ≡ p ++ i ++ v ++ g ++ f ++ r ++ k
in_a_row p i v g f r k =
    sym (append_assoc ((p ++ i) ++ (v ++ g ++ f)) r k)
    ∙ ap (λ xs. xs ++ r ++ k) (sym (append_assoc (p ++ i) (v ++ g) f)
    ∙ ap (λ xs. xs ++ f) (sym (append_assoc (p ++ i) v g)))

pub returns : goal.returns
returns c =
    let t = template_tree c.args.template.now in
    three_more [] (neighbor_members t) (value_members t) (body_members t) (all_declared c.push_neighbors.new.all.items)
    (all_declared c.push_values.new.all.items) (all_declared c.push_bodies.new.all.items)
    (c.in_ok-push_neighbors.ensures
    ∙ ap (λ xs. all_declared xs ++ neighbor_members t) c.new-all.ensures.items)
    c.in_ok-push_values.ensures c.in_ok-push_bodies.ensures
    ∙ in_a_row (map (λ (p : Port). text.declared (text.a_neighbor p.template) p.name) t.ports)
    (map (λ (i : InstanceTree). text.declared (text.a_neighbor i.template) i.name) t.instances)
    (map (λ (v : VarTree). text.declared (text.var_sort v) v.name) t.vars)
    (map (λ (g : NamedTree). text.declared text.a_part g.name) t.goals)
    (map (λ (f : NamedTree). text.declared text.a_part f.name) t.fairs)
    (map (λ (p : ProcessTree). text.declared text.a_part p.name) t.processes)
    (map (λ (k : TaskTree). text.declared text.a_task k.name) t.tasks)

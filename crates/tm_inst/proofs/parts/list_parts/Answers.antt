use Rattle.std.proofs.Common.{◌≤◌, ℕ, List, get_or, map, sym, subst, arith}
use Rattle.std.specs.Prelude.{All}
use Rattle.std.proofs.lemmas.List.{length-map}
use Rattle.tm_syntax.specs.declared.tree.Spec.{Spec}
use Rattle.tm_syntax.specs.Tree.{SpecTree}
use Rattle.tm_syntax.specs.Tree.View.{spec_tree}
use Rattle.tm_syntax.specs.Design.{instance_node}
use Rattle.tm_scope.specs.Graph.{graph_of}
use Rattle.tm_inst.specs.Instances.{AreSizes}
use Rattle.tm_inst.specs.Sizes.{HasShortLists}
use Rattle.tm_inst.proofs.FewInstances.{instances_few, nodes_few}
use Rattle.tm_inst.proofs.HeldKnown.{all_held, main_apart}
use Rattle.tm_inst.proofs.Narrow.{all_narrow}
use Rattle.tm_inst.proofs.ShortMembers.{lists_short, templates_short}
use Rattle.tm_inst.proofs.SizesKnown.{are_sizes, main_small}
use Rattle.tm_inst.proofs.parts.list_parts.Goals as goal

pub list_instances-requires-clause-sizes : goal.list_instances-requires-clause-sizes
list_instances-requires-clause-sizes c =
    let spec : SpecTree = spec_tree c.args.scopes.now in
    subst (AreSizes spec) (sym c.as_slice.ensures.value)
    (are_sizes spec (graph_of c.args.graph.now) c.args.order.now c.in_ok-sizes.sizes.items c.requires.templates
    c.in_ok-sizes.ensures)

pub list_instances-requires-clause-held : goal.list_instances-requires-clause-held
list_instances-requires-clause-held c = all_held (spec_tree c.args.scopes.now) c.requires.typed

pub list_instances-requires-clause-few : goal.list_instances-requires-clause-few
list_instances-requires-clause-few c = templates_short c.args.scopes.now c.requires.short_text

pub list_instances-requires-clause-apart : goal.list_instances-requires-clause-apart
list_instances-requires-clause-apart c =
    main_apart (spec_tree c.args.scopes.now) c.requires.typed c.main_number.result c.main_number.ensures

pub list_instances-requires-clause-small : goal.list_instances-requires-clause-small
list_instances-requires-clause-small c =
    let spec : SpecTree = spec_tree c.args.scopes.now in
    let main : ℕ = c.main_number.result in
    subst (λ (sizes : List ℕ). get_or sizes main 0 ≤ 64) (sym c.as_slice.ensures.value)
    (main_small spec (graph_of c.args.graph.now) c.args.order.now c.in_ok-sizes.sizes.items c.requires.templates
    c.in_ok-sizes.ensures main c.main_number.ensures (instances_few spec c.requires.within.counts))

pub variables-requires-clause-narrow : goal.variables-requires-clause-narrow
variables-requires-clause-narrow c = all_narrow c.args.scopes.now c.requires.typed.fitting

pub variables-requires-clause-few : goal.variables-requires-clause-few
variables-requires-clause-few c =
    let nodes = c.in_ok-instances.instances.items in
    let few = nodes_few (spec_tree c.args.scopes.now) (map instance_node nodes) c.requires.templates.acyclic
    c.requires.within.counts c.in_ok-instances.ensures in
    let size = length-map nodes instance_node in
    omega (arith, few, size, c.as_slice-2.ensures.len)

pub list_items-requires-clause-short : goal.list_items-requires-clause-short
list_items-requires-clause-short c =
    subst (λ (s : Spec). All HasShortLists s.templates.items) (sym c.spec.ensures)
    (lists_short c.args.scopes.now c.requires.short_text)

pub list_items-requires-clause-few : goal.list_items-requires-clause-few
list_items-requires-clause-few c =
    let nodes = c.in_ok-instances.instances.items in
    let few = nodes_few (spec_tree c.args.scopes.now) (map instance_node nodes) c.requires.templates.acyclic
    c.requires.within.counts c.in_ok-instances.ensures in
    let size = length-map nodes instance_node in
    omega (arith, few, size, c.as_slice-3.ensures.len)

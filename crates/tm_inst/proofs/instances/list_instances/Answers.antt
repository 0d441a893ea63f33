use Rattle.std.proofs.Common.{[], get_or, length, map, sym, ap, ◌∙◌, subst}
use Rattle.tm_syntax.specs.Tree.View.{spec_tree}
use Rattle.tm_syntax.specs.Design.{instance_node}
use Rattle.tm_inst.specs.Inner.Growth.{HasGrown}
use Rattle.tm_inst.proofs.Held.{all_are_instances}
use Rattle.tm_inst.proofs.instances.list_instances.Goals as goal

pub add_instance-requires-clause-ports : goal.add_instance-requires-clause-ports
add_instance-requires-clause-ports c = λ u is. ap length c.new.ensures.items ∙ sym (ap length (c.requires.apart u is))

pub returns : goal.returns
returns c =
    let spec = spec_tree c.args.scopes.now in
    let nodes = map instance_node c.add_instance.new.nodes.items in
    let size = get_or c.args.sizes.now c.args.main 0 in
    all_are_instances spec nodes c.args.main size c.requires.main
    (subst (λ ps. HasGrown spec [] nodes c.args.main size [] ps) c.new.ensures.items
    (subst (λ path. HasGrown spec [] nodes c.args.main size path c.new.result.items) c.in_ok-path.ensures
    (subst (λ old. HasGrown spec (map instance_node old) nodes c.args.main size c.in_ok-path.path c.new.result.items)
    c.new-nodes.ensures.items c.in_ok-add_instance.ensures)))

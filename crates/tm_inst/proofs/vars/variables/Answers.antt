use Rattle.std.proofs.Common.{ℕ, map, refl, arith}
use Rattle.std.specs.List.{enumerate_from, flat_map}
use Rattle.tm_syntax.specs.Tree.View.{spec_tree}
use Rattle.tm_syntax.specs.Design.{instance_node, instance_vars}
use Rattle.tm_inst.proofs.Listing.{listed_all, listed_more}
use Rattle.tm_inst.proofs.vars.variables.Goals as goal

pub loop-number-preserved : goal.loop-number-preserved
loop-number-preserved c =
    let f = instance_vars (spec_tree c.args.scopes.now) in
    let i : ℕ = c.loop-number.number in
    listed_more (λ k ns. flat_map f (enumerate_from k (map instance_node ns))) (λ k n. f (k, instance_node n))
    (λ k n ns. refl) c.args.instances.now i c.index-instances-number.result c.loop-number.vars.items
    c.push_instance.new.vars.items (flat_map f (enumerate_from 0 (map instance_node c.args.instances.now)))
    (omega arith) c.index-instances-number.is c.in_ok-push_instance.ensures c.loop-number.invariant

pub returns : goal.returns
returns c =
    let f = instance_vars (spec_tree c.args.scopes.now) in
    listed_all (λ k ns. flat_map f (enumerate_from k (map instance_node ns))) (λ k n. f (k, instance_node n))
    (λ k n ns. refl) c.args.instances.now c.loop-number.number c.loop-number.vars.items
    (flat_map f (enumerate_from 0 (map instance_node c.args.instances.now))) refl (omega arith) c.loop-number.invariant

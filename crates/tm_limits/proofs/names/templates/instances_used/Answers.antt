use Rattle.std.proofs.Common.{◌<◌, ◌∷◌, [], ℕ, length, map, ap, ◌∙◌, arith}
use Rattle.std.specs.List.{flat_map}
use Rattle.std.proofs.lemmas.List.{take_all}
use Rattle.tm_limits.proofs.LongNames.{long_joined, long_more}
use Rattle.tm_limits.specs.LongNames.{first_long}
use Rattle.tm_syntax.specs.Tree.{InstanceTree}
use Rattle.tm_syntax.specs.Tree.View.{instance_tree}
use Rattle.tm_limits.proofs.names.templates.instances_used.Goals as goal

pub loop-instance-preserved : goal.loop-instance-preserved
loop-instance-preserved c =
    let xs = c.args.instances.now in
    let i : ℕ = c.loop-instance.instance-index in
    let x = c.instance-item.result in
    let within : i < length xs = omega arith in
    long_more (λ (i : InstanceTree). i.template ∷ i.args) instance_tree xs i x _ _ _ within c.instance-item.is
    (long_joined _ _ _ (x.template ∷ []) x.args.items c.earlier-own.ensures c.long.ensures
    (c.names_long.ensures ∙ ap first_long c.as_slice.ensures.value)) c.earlier-first.ensures c.loop-instance.invariant

pub returns : goal.returns
returns c =
    c.loop-instance.invariant
    ∙ ap (λ xs. first_long (flat_map (λ (i : InstanceTree). i.template ∷ i.args) (map instance_tree xs)))
    (take_all c.loop-instance.instance-index c.args.instances.now (omega arith))

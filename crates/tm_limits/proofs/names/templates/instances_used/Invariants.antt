use Rattle.std.proofs.Common.{◌≡◌, ◌∷◌, map, take}
use Rattle.std.specs.List.{flat_map}
use Rattle.std.specs.Option.{option_copied}
use Rattle.tm_limits.specs.LongNames.{first_long}
use Rattle.tm_syntax.specs.Tree.{InstanceTree}
use Rattle.tm_syntax.specs.Tree.View.{instance_tree}
use Rattle.tm_limits.proofs.names.templates.instances_used.Given as goal

abbrev pub invariant-loop-instance : goal.invariant-loop-instance
invariant-loop-instance l =
    option_copied l.first
    ≡ first_long (flat_map (λ (i : InstanceTree). i.template ∷ i.args)
    (map instance_tree (take l.instance-index l.instances)))

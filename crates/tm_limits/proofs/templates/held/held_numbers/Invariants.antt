use Rattle.std.proofs.Common.{◌≡◌, map, take}
use Rattle.std.specs.List.{filter_map}
use Rattle.tm_syntax.specs.Tree.{InstanceTree}
use Rattle.tm_syntax.specs.Tree.View.{instance_tree, spec_tree}
use Rattle.tm_syntax.specs.Scopes.Names.{template_number}
use Rattle.tm_limits.proofs.templates.held.held_numbers.Given as goal

abbrev pub invariant-loop-instance : goal.invariant-loop-instance
invariant-loop-instance l =
    l.numbers.items ≡ filter_map (λ (i : InstanceTree). template_number (spec_tree l.scopes) i.template.text)
    (map instance_tree (take l.instance-index l.instances))

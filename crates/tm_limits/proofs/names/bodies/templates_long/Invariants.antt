use Rattle.std.proofs.Common.{◌≡◌, map, take}
use Rattle.std.specs.List.{flat_map}
use Rattle.std.specs.Option.{option_copied}
use Rattle.tm_limits.specs.LongNames.{first_long, template_names}
use Rattle.tm_syntax.specs.Tree.View.{template_tree}
use Rattle.tm_limits.proofs.names.bodies.templates_long.Given as goal

abbrev pub invariant-loop-template : goal.invariant-loop-template
invariant-loop-template l =
    option_copied l.first
    ≡ first_long (flat_map (template_names l.sought) (map template_tree (take l.template-index l.templates)))

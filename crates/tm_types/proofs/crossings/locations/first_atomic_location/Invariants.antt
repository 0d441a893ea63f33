use Rattle.std.proofs.Common.{◌≡◌, take}
use Rattle.std.specs.List.{flat_map}
use Rattle.tm_syntax.specs.declared.tree.Template.{Template}
use Rattle.tm_syntax.specs.Tree.View.{spec_tree, template_tree}
use Rattle.tm_types.specs.Firsts.{first_of}
use Rattle.tm_types.proofs.AtomicLocations.{template_locations}
use Rattle.tm_types.proofs.crossings.locations.first_atomic_location.Given as goal

abbrev pub invariant-loop-number : goal.invariant-loop-number
invariant-loop-number l =
    l.first ≡ first_of (flat_map (λ (t : Template). template_locations (spec_tree l.spec) (template_tree t))
    (take l.number l.spec.templates.items))

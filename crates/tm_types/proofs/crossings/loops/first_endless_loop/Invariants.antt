use Rattle.std.proofs.Common.{◌≡◌, take}
use Rattle.std.specs.List.{flat_map}
use Rattle.tm_syntax.specs.declared.tree.Template.{Template}
use Rattle.tm_syntax.specs.Tree.View.{spec_tree, template_tree}
use Rattle.tm_syntax.specs.Scopes.Crossing.{call_crosses}
use Rattle.tm_types.specs.Firsts.{first_of}
use Rattle.tm_types.specs.Inner.Crossings.{body_loops, in_bodies}
use Rattle.tm_types.proofs.crossings.loops.first_endless_loop.Given as goal

abbrev pub invariant-loop-number : goal.invariant-loop-number
invariant-loop-number l =
    l.first ≡ first_of (flat_map (λ (t : Template). in_bodies
    (body_loops (call_crosses (spec_tree l.spec) (template_tree t))) (template_tree t))
    (take l.number l.spec.templates.items))

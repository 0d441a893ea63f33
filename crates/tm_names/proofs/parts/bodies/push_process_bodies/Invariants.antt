use Rattle.std.proofs.Common.{◌≡◌, ◌++◌, drop}
use Rattle.tm_syntax.specs.Tree.View.{spec_tree, template_tree}
use Rattle.tm_names.specs.Bodies.{all_bodies}
use Rattle.tm_names.specs.Inner.BodyLists.{process_bodies}
use Rattle.tm_names.proofs.parts.bodies.push_process_bodies.Given as goal

abbrev pub invariant-loop-index : goal.invariant-loop-index
invariant-loop-index l =
    all_bodies l.bodies.items
    ++ process_bodies (spec_tree l.names) (template_tree l.template) l.index (drop l.index l.template.processes.items)
    ≡ all_bodies l.initial.bodies.items
    ++ process_bodies (spec_tree l.names) (template_tree l.template) 0 l.template.processes.items

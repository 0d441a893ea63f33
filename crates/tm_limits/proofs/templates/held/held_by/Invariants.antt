use Rattle.std.proofs.Common.{◌≡◌, map, take}
use Rattle.tm_syntax.specs.Tree.View.{spec_tree, template_tree}
use Rattle.tm_scope.specs.Graph.{graph_of}
use Rattle.tm_limits.specs.Templates.{held_numbers}
use Rattle.tm_limits.proofs.templates.held.held_by.Given as goal

abbrev pub invariant-loop-template : goal.invariant-loop-template
invariant-loop-template l =
    graph_of l.graph.items
    ≡ map (held_numbers (spec_tree l.scopes)) (map template_tree (take l.template-index l.templates))

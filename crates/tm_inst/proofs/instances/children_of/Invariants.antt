use Rattle.std.proofs.Common.{map, drop}
use Rattle.tm_syntax.specs.Tree.View.{instance_tree, spec_tree}
use Rattle.tm_inst.proofs.Numbering.{IsNumberedSoFar}
use Rattle.tm_inst.proofs.instances.children_of.Given as goal

abbrev pub invariant-loop-one : goal.invariant-loop-one
invariant-loop-one l =
    IsNumberedSoFar (spec_tree l.scopes) l.sizes l.first l.at (map instance_tree l.held)
    (map instance_tree (drop l.one-index l.held)) l.numbers.items

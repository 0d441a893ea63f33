use Rattle.std.proofs.Common.{map, take}
use Rattle.tm_syntax.specs.Design.View.{design_tree}
use Rattle.tm_atoms.specs.Atoms.{atom_of, listed}
use Rattle.tm_flat_pool.specs.Inner.Marks.{AreMarked}
use Rattle.tm_flat_pool.proofs.pooler.Pooler.marks.Given as goal

abbrev pub invariant-loop-number : goal.invariant-loop-number
invariant-loop-number l =
    AreMarked (design_tree l.self.design.now) (take l.number (map atom_of (listed l.atoms))) l.marks.items

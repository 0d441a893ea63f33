use Rattle.std.proofs.Common.{map, take}
use Rattle.tm_syntax.specs.Design.View.{design_tree}
use Rattle.tm_atoms.specs.Atoms.{atom_of, listed}
use Rattle.tm_flat_pool.specs.Inner.Holding.{AreHeld}
use Rattle.tm_flat_pool.proofs.pooler.Pooler.atom_terms.Given as goal

abbrev pub invariant-loop-number : goal.invariant-loop-number
invariant-loop-number l =
    AreHeld (design_tree l.self.design.now) (take l.number (map atom_of (listed l.atoms))) l.fn.terms l.terms
    l.ids.items

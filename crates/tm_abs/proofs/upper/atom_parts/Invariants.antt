use Rattle.std.proofs.Common.{◌≡◌, map, take}
use Rattle.tm_abs.specs.declared.atoms.Atom.{Atom}
use Rattle.tm_abs.proofs.upper.atom_parts.Given as goal

abbrev pub invariant-loop-atom : goal.invariant-loop-atom
invariant-loop-atom l = l.parts.items ≡ map (λ (a : Atom). (a.level, a.holds)) (take l.atom-index l.atoms)

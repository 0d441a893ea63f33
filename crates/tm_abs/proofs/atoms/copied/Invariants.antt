use Rattle.std.proofs.Common.{◌≡◌, map, take}
use Rattle.tm_abs.specs.Inner.Atoms.{data_of}
use Rattle.tm_abs.proofs.atoms.copied.Given as goal

abbrev pub invariant-loop-atom : goal.invariant-loop-atom
invariant-loop-atom l = map data_of l.copies.items ≡ map data_of (take l.atom-index l.atoms)

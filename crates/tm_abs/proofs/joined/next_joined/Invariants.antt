use Rattle.std.proofs.Common.{◌≡◌, ◌<◌, take}
use Rattle.std.specs.Prelude.{All}
use Rattle.tm_abs.specs.declared.atoms.Atom.{Atom}
use Rattle.tm_abs.specs.Inner.Atoms.{ReadsNone}
use Rattle.tm_abs.proofs.joined.next_joined.Given as goal

abbrev pub invariant-loop-at : goal.invariant-loop-at
invariant-loop-at l = record {
  none : l.most ≡ 0 → All (λ (a : Atom). ReadsNone l.gone.marks.items a.reads.items) (take l.at l.waiting);
  below : 0 < l.most → l.next < l.at;
}

-- The pool of atoms as it is made, one atom behind the other.
use Rattle.std.specs.Prelude.{◌≡◌, Bool, false, not, ◌&&◌, List, [], ◌∷◌, ◌++◌, if◌then◌else◌}
use Rattle.std.specs.List.{list_any}
use Rattle.tm_syntax.specs.Design.{DesignTree}
use Rattle.tm_syntax.specs.Design.Atoms.{Atom, is_lasting, resolved_atom, same_atom}

-- whether an atom is one of these
abbrev pub is_among : DesignTree → List Atom → Atom → Bool
is_among d pool a = list_any (λ p. same_atom (resolved_atom d p) (resolved_atom d a)) pool

-- some atoms, and behind them one more that is none of them, unless it lives for one step
abbrev pub with_atom : DesignTree → List Atom → Atom → List Atom
with_atom d pool a = if is_lasting (resolved_atom d a) && not (is_among d pool a) then pool ++ a ∷ [] else pool

-- some atoms, with each of others in turn
abbrev pub with_atoms : DesignTree → List Atom → List Atom → List Atom
with_atoms d pool [] = pool
with_atoms d pool (a ∷ atoms) = with_atoms d (with_atom d pool a) atoms

-- an atom adds nothing to some: it lives for one step, or is one of them
abbrev pub IsNoted : DesignTree → List Atom → Atom → Type 0
IsNoted d pool a = (is_lasting (resolved_atom d a) && not (is_among d pool a)) ≡ false

-- none of these atoms adds anything to some
abbrev pub AreNoted : DesignTree → List Atom → List Atom → Type 0
AreNoted d pool [] = Unit
AreNoted d pool (a ∷ atoms) = IsNoted d pool a × AreNoted d pool atoms

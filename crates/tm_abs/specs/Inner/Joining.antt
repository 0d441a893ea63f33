-- Atoms that are joined to a set.
-- free, marks and levels are levels of a state: those that are no tracked predicate, and those that are quantified, as
-- marks and as a list; reads are the levels that the set reads, atoms those that are joined, and left the others.
use Rattle.std.specs.Prelude.{◌≡◌, ◌↔◌, ◌⊎◌, ℕ, Bool, true, List, All, Contains, length}
use Rattle.tm_abs.specs.declared.atoms.Atom.{Atom}
use Rattle.tm_abs.specs.Inner.Atoms.{ReadsWithin}
use Rattle.tm_abs.specs.Inner.Marks.{AreListed}
use Rattle.tm_ddops.specs.Quantified.{is_marked_level}

-- quantified are free levels alone, and all free ones that the set or a joined atom reads; and each atom of the first
-- ones is joined or left
pub record IsJoining (free : List Bool) (reads : List ℕ) (first : List Atom) (marks : List Bool) (levels : List ℕ)
    (atoms left : List Atom) : Type 0 where
  pub count : length marks ≡ length free
  pub only_free : (k : ℕ) → is_marked_level marks k ≡ true → is_marked_level free k ≡ true
  pub listed : AreListed marks levels
  pub set : ReadsWithin free marks reads
  pub joined : All (λ (a : Atom). ReadsWithin free marks a.reads.items) atoms
  pub all : (a : Atom) → Contains first a ↔ (Contains atoms a ⊎ Contains left a)

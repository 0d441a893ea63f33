-- Turns in which atoms are put to a set, the first of them at the end of the list.
-- gone marks the levels that are quantified, atoms those of the turns, in the order of the turns' list, i and j are
-- places.
use Rattle.std.specs.Prelude.{◌≡◌, ◌↔◌, ◌⊎◌, ℕ, ◌<◌, Bool, true, List, Contains, length, slice_index_or}
use Rattle.tm_abs.specs.declared.atoms.Atom.{Atom}
use Rattle.tm_abs.specs.declared.turns.Turn.{Turn}
use Rattle.tm_ddops.specs.Quantified.{is_marked_level}

-- the turn at a place is that of the atom there; the levels that end with it are quantified ones, and no later turn's
-- atom reads them
pub record IsTurnAt (gone : List Bool) (atoms : List Atom) (i : ℕ) (t : Turn) (a : Atom) : Type 0 where
  pub level : t.level ≡ a.level
  pub holds : t.holds ≡ a.holds
  pub ends : (k : ℕ) → Contains t.ends.items k → is_marked_level gone k ≡ true
  pub later : (k j : ℕ) (b : Atom) → j < i → Contains t.ends.items k →
      ¬ Contains (slice_index_or atoms j b).reads.items k

-- a level ends with one of the turns
abbrev pub IsEnded : List Turn → ℕ → Type 0
IsEnded turns k = (t : Turn) × Contains turns t × Contains t.ends.items k

-- one of the first atoms reads a level
abbrev pub IsReadBelow : List Atom → ℕ → ℕ → Type 0
IsReadBelow atoms n k =
    (i : ℕ) × (a : Atom) × (i < n) × (slice_index_or atoms i a ≡ a) × Contains a.reads.items k

-- the turns of the first n atoms; marked are the quantified levels that these read, and each of them ends with a turn
pub record AreTurnsBelow (gone : List Bool) (atoms : List Atom) (n : ℕ) (marks : List Bool) (turns : List Turn) :
    Type 0 where
  pub count : length turns ≡ n
  pub each : (i : ℕ) (t : Turn) (a : Atom) → i < n →
      IsTurnAt gone atoms i (slice_index_or turns i t) (slice_index_or atoms i a)
  pub marked : (k : ℕ) → (is_marked_level marks k ≡ true) ↔
      ((is_marked_level gone k ≡ true) × IsReadBelow atoms n k)
  pub ended : (k : ℕ) → is_marked_level marks k ≡ true → IsEnded turns k

-- there is a turn for each atom; each quantified level ends with a turn or is not read, and those that are not read no
-- atom reads
pub record AreTurnsOf (gone : List Bool) (atoms : List Atom) (unread : List ℕ) (turns : List Turn) : Type 0 where
  pub count : length turns ≡ length atoms
  pub each : (i : ℕ) (t : Turn) (a : Atom) → i < length atoms →
      IsTurnAt gone atoms i (slice_index_or turns i t) (slice_index_or atoms i a)
  pub unread_gone : (k : ℕ) → Contains unread k → is_marked_level gone k ≡ true
  pub unread_by : (k : ℕ) (a : Atom) → Contains unread k → Contains atoms a → ¬ Contains a.reads.items k
  pub all : (k : ℕ) → is_marked_level gone k ≡ true → Contains unread k ⊎ IsEnded turns k

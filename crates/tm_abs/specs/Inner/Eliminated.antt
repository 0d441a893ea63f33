-- Levels that are quantified turn by turn.
-- IsGone says which levels are quantified so far, IsRelated what the turns so far ask of values of levels, f is a set,
-- and so_far what it has become; the turns from the n-th on have been taken.
use Rattle.std.specs.Prelude.{◌≡◌, ◌⊎◌, ℕ, ◌<◌, ◌≤◌, true, List, Contains, length, slice_index_or}
use Rattle.tm_abs.specs.declared.atoms.Atom.{Atom}
use Rattle.tm_abs.specs.declared.turns.Turn.{Turn}
use Rattle.tm_dd.specs.Table.{Table, means}
use Rattle.tm_game_bits.specs.Functions.{Assignment, Function}

-- values of levels differ at such levels alone
abbrev pub AgreeBeside : (ℕ → Type 0) → Assignment → Assignment → Type 0
AgreeBeside IsGone v w = (k : ℕ) → ¬ IsGone k → w k ≡ v k

-- it is true exactly where f is true and the turns are met for some values of the levels that are quantified
pub record IsEliminated (IsGone : ℕ → Type 0) (IsRelated : Assignment → Type 0) (f so_far : Function) : Type 0 where
  pub some : (v : Assignment) → so_far v ≡ true →
      (w : Assignment) × AgreeBeside IsGone v w × IsRelated w × (f w ≡ true)
  pub enough : (v w : Assignment) → AgreeBeside IsGone v w → IsRelated w → f w ≡ true → so_far v ≡ true

-- a level is not read, or ends with a turn that has been taken
abbrev pub IsGoneFrom : List ℕ → List Turn → ℕ → ℕ → Type 0
IsGoneFrom unread turns n k =
    Contains unread k ⊎ ((i : ℕ) × (t : Turn) × (n ≤ i) × (i < length turns) × (slice_index_or turns i t ≡ t) ×
    Contains t.ends.items k)

-- the level of each atom whose turn has been taken has the atom's value
abbrev pub RelatesFrom : Table → List Atom → ℕ → Assignment → Type 0
RelatesFrom s atoms n w =
    (i : ℕ) (a : Atom) → n ≤ i → i < length atoms → slice_index_or atoms i a ≡ a → w a.level ≡ means s a.holds w

-- what a set has become
abbrev pub IsEliminatedFrom : Table → List Atom → List ℕ → List Turn → ℕ → Function → Function → Type 0
IsEliminatedFrom s atoms unread turns n f so_far =
    IsEliminated (IsGoneFrom unread turns n) (RelatesFrom s atoms n) f so_far

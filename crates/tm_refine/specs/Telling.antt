-- Where terms have two values. t is a table of terms, one and other are values of its inputs.
use Rattle.std.specs.Prelude.{◌≡◌, ℕ, ◌<◌, List, Some, slice_get}
use Rattle.tm_term.specs.declared.term.TermId.{TermId}
use Rattle.tm_term.specs.Table.{IsKnown, Table}
use Rattle.tm_term.specs.Value.{value_of}

-- each of some terms is known
abbrev pub AreKnown : Table → List TermId → Type 0
AreKnown t ids = (i : ℕ) (id : TermId) → slice_get ids i ≡ Some id → IsKnown t id

-- each of the first so many terms has one value over both
abbrev pub AgreeBelow : Table → List ℕ → List ℕ → List TermId → ℕ → Type 0
AgreeBelow t one other ids k =
    (i : ℕ) (id : TermId) → i < k → slice_get ids i ≡ Some id → value_of t one id ≡ value_of t other id

-- the term of this place has two values, and those before it have one each
pub record DiffersAt (t : Table) (one other : List ℕ) (ids : List TermId) (k : ℕ) : Type 0 where
  pub id : TermId
  pub at : slice_get ids k ≡ Some id
  pub apart : ¬ (value_of t one id ≡ value_of t other id)
  pub before : AgreeBelow t one other ids k

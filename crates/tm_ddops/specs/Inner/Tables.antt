-- What holds of the tables that walks leave.
use Rattle.std.specs.Prelude.{◌≡◌, ℕ, ◌<◌, List, [], length, Option, Some, slice_index_or}
use Rattle.tm_dd.specs.declared.node.NodeId.{NodeId}
use Rattle.tm_dd.specs.Table.{Table}
use Rattle.tm_ddops.specs.declared.change.Change.{Change}
use Rattle.tm_ddops.specs.declared.tables.Tables.{Tables}
use Rattle.tm_ddops.specs.Changed.{IsChanged, change_of}
use Rattle.tm_ddops.specs.Inner.Memo.{AreChoices}
use Rattle.tm_ddops.specs.Inner.Plans.{AreQuantifiers, AreSubstitutions}
use Rattle.tm_ddops.specs.Inner.Visited.{Visited, found_under}

-- the changes of a number
abbrev pub numbered : List (List (ℕ × Change)) → ℕ → ℕ → Option Change
numbered lists n = change_of (slice_index_or lists n [])

-- what was found under changes of a number: the number is one of the list's, and its changes make the id of the
-- function
pub record IsTrueVisit (s : Table) (lists : List (List (ℕ × Change))) (n : ℕ) (f id : NodeId) : Type 0 where
  pub within : n < length lists
  pub changed : IsChanged s (numbered lists n) f id

-- each id that was found is true
abbrev pub AreVisits : Table → List (List (ℕ × Change)) → Visited → Type 0
AreVisits s lists m = (n : ℕ) (f id : NodeId) → found_under m n f ≡ Some id → IsTrueVisit s lists n f id

-- each entry of the tables is true of the store
pub record AreTrue (s : Table) (t : Tables) : Type 0 where
  pub choices : AreChoices s t.walks.choices
  pub visits : AreVisits s t.changes.keys t.walks.found
  pub quantifiers : AreQuantifiers s t.changes.keys t.quantifiers.items
  pub substitutions : AreSubstitutions s t.changes.keys t.substitutions.items

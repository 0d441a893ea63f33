-- What changes of levels make of a function.
use Rattle.std.specs.Prelude.{◌≡◌, ℕ, ◌==◌, ◌<◌, ◌≤◌, ◌⊎◌, Bool, true, ◌||◌, List, Option, Some, None, slice_index_or, if◌then◌else◌}
use Rattle.std.specs.Map.{lookup}
use Rattle.tm_dd.specs.declared.node.Node.{Node}
use Rattle.tm_dd.specs.declared.node.NodeId.{NodeId}
use Rattle.tm_dd.specs.declared.node.TheConstants.{FALSE, TRUE}
use Rattle.tm_dd.specs.Table.{Table, Knows, means, rank_of}
use Rattle.tm_ddops.specs.declared.change.Change.{Change}
use Rattle.tm_ddops.specs.declared.change.Change.TheVariants.{Becomes, Quantified}

-- the change at a level, in a list by level
abbrev pub change_at : List (Option Change) → ℕ → Option Change
change_at changes k = slice_index_or changes k None

-- the change of a level, in a list of levels with their changes, of which the first counts
abbrev pub change_of : List (ℕ × Change) → ℕ → Option Change
change_of changes k = lookup (λ l. l == k) changes

-- no level of this rank or a deeper one changes
pub record IsDepth (s : Table) (changes : ℕ → Option Change) (depth : ℕ) : Type 0 where
  pub within : depth ≤ s.levels
  pub stay : (k : ℕ) → k < s.levels → depth ≤ rank_of s k → changes k ≡ None

-- b is a value that a function may read at level k, where v gives each level's value: that of the level, that of the
-- function in its place, or any
abbrev pub Reads : Table → (ℕ → Bool) → ℕ → Option Change → Bool → Type 0
Reads s v k None b = b ≡ v k
Reads s v k (Some (Becomes part)) b = b ≡ means s part v
Reads s v k (Some Quantified) b = Unit {0}

-- w gives each level a value that a function may read there
abbrev pub MayRead : Table → (ℕ → Option Change) → (ℕ → Bool) → (ℕ → Bool) → Type 0
MayRead s changes v w = (k : ℕ) → k < s.levels → Reads s v k (changes k) (w k)

-- the store knows each function that takes the place of a level
abbrev pub KnowsParts : Table → (ℕ → Option Change) → Type 0
KnowsParts s changes = (k : ℕ) → k < s.levels → (part : NodeId) → changes k ≡ Some (Becomes part) → Knows s part

-- an id is true exactly where f is true for some values that it may read
pub record IsChanged (s : Table) (changes : ℕ → Option Change) (f id : NodeId) : Type 0 where
  pub operand : Knows s f
  pub known : Knows s id
  pub parts : KnowsParts s changes
  pub some : (v : ℕ → Bool) → means s id v ≡ true → (w : ℕ → Bool) × MayRead s changes v w × (means s f w ≡ true)
  pub enough : (v w : ℕ → Bool) → MayRead s changes v w → means s f w ≡ true → means s id v ≡ true

-- the value at a level that changes, from what became of the two branches there
abbrev pub branch_value : Table → Change → NodeId → NodeId → (ℕ → Bool) → Bool
branch_value s (Becomes part) lo hi v = if means s part v then means s hi v else means s lo v
branch_value s Quantified lo hi v = means s lo v || means s hi v

-- the branch of a node that is left where a constant takes the place of its level
abbrev pub IsSettled : Option Change → Node → NodeId → Type 0
IsSettled change node branch =
    ((change ≡ Some (Becomes TRUE)) × (branch ≡ node.hi)) ⊎ ((change ≡ Some (Becomes FALSE)) × (branch ≡ node.lo))

-- the first of two changes that is there
abbrev pub first_of : Option Change → Option Change → Option Change
first_of (Some f) o = Some f
first_of None o = o

-- What walks under changes of levels have found: an id for each numbered changes and each function that they met.
use Rattle.std.specs.Prelude.{◌≡◌, ◌≢◌, ℕ, ◌==◌, Bool, ◌&&◌, Option, Some}
use Rattle.std.specs.declared.hash.BuildHasherDefault.{BuildHasherDefault}
use Rattle.std.specs.HashMap.{get, HashMap}
use Rattle.tm_dd.specs.declared.hasher.NumberHasher.{NumberHasher}
use Rattle.tm_dd.specs.declared.node.NodeId.{NodeId}
use Rattle.tm_dd.specs.NodeId.{number_of}
use Rattle.tm_dd.specs.Table.{Table}
use Rattle.tm_ddops.specs.declared.change.Change.{Change}
use Rattle.tm_ddops.specs.declared.rewrite.Visit.{Visit}
use Rattle.tm_ddops.specs.Changed.{IsChanged}

-- the visits, with what was found for them
abbrev pub Visited : Type 0
Visited = HashMap Visit NodeId (BuildHasherDefault NumberHasher)

-- whether two visits are one
abbrev pub visit_eq : Visit → Visit → Bool
visit_eq a b = (a.changes == b.changes) && (number_of a.function == number_of b.function)

-- what was found for a function under changes of this number
abbrev pub found_under : Visited → ℕ → NodeId → Option NodeId
found_under m n f = get visit_eq m (record { changes = n; function = f })

-- each id that was found under changes of this number is what they make of the function
abbrev pub AreChanged : Table → (ℕ → Option Change) → ℕ → Visited → Type 0
AreChanged s changes n m = (f id : NodeId) → found_under m n f ≡ Some id → IsChanged s changes f id

-- what was found under changes of other numbers stays as it was
abbrev pub SameElsewhere : ℕ → Visited → Visited → Type 0
SameElsewhere n old new = (k : ℕ) (f : NodeId) → k ≢ n → found_under new k f ≡ found_under old k f

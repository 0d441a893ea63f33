-- Sets of states, as tests, compared at the states of a list.
use Rattle.std.specs.Prelude.{◌≡◌, ◌⊎◌, ℕ, ◌+◌, Bool, true, false, not, ◌&&◌, List, [], ◌∷◌, if◌then◌else◌}
use Rattle.tm_sem.specs.State.{StateData}

-- a set of states
abbrev pub StateSet : Type 0
StateSet = StateData → Bool

-- the states that a set leaves out
abbrev pub outside : StateSet → StateSet
outside a s = not (a s)

-- the states in both of two sets
abbrev pub common : StateSet → StateSet → StateSet
common a b s = a s && b s

-- every state
abbrev pub everywhere : StateSet
everywhere s = true

-- a state stands in a list
abbrev pub IsAmong : StateData → List StateData → Type 0
IsAmong s [] = ⊥
IsAmong s (t ∷ ts) = (s ≡ t) ⊎ IsAmong s ts

-- of the listed states, those of the first set are in the second
pub record IsWithin (n : List StateData) (a b : StateSet) : Type 0 where
  pub within : (s : StateData) → IsAmong s n → a s ≡ true → b s ≡ true

-- two sets hold the same listed states
pub record IsSame (n : List StateData) (a b : StateSet) : Type 0 where
  pub same : (s : StateData) → IsAmong s n → a s ≡ b s

-- some listed state is in the second set and not in the first
pub record Gains (n : List StateData) (a b : StateSet) : Type 0 where
  pub state : StateData
  pub listed : IsAmong state n
  pub without_it : a state ≡ false
  pub with_it : b state ≡ true

-- how many of the listed states are in a set
abbrev pub count : List StateData → StateSet → ℕ
count [] a = 0
count (s ∷ ss) a = (if a s then 1 else 0) + count ss a

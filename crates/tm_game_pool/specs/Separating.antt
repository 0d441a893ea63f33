-- Predicates that tell all valid states apart, and items by their numbers.
-- d a design, ps items of a list, ks their numbers.
use Rattle.std.specs.Prelude.{◌≡◌, ℕ, List, [], ◌∷◌, slice_get}
use Rattle.std.specs.Option.{option_map_or}
use Rattle.tm_syntax.specs.Design.{DesignTree}
use Rattle.tm_sem.specs.State.{StateData}
use Rattle.tm_sem.specs.Step.{IsState}
use Rattle.tm_flat_pool.specs.Cells.{SameCell}
use Rattle.tm_flat_pool.specs.Predicates.{Predicate}

-- predicates separate the valid states of a design: each cell holds at most one of them
abbrev pub Separates : DesignTree → List Predicate → Type 0
Separates d predicates =
    (s t : StateData) → IsState d s → IsState d t → SameCell d predicates s t → s ≡ t

-- the predicates of these numbers, in the order of the numbers
abbrev pub predicates_at : {X : Type 0} → List X → List ℕ → List X
predicates_at ps [] = []
predicates_at ps (k ∷ ks) = option_map_or (λ p. p ∷ predicates_at ps ks) (slice_get ps k) (predicates_at ps ks)

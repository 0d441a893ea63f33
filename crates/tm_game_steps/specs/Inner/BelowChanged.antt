-- The numbers of the first inputs, changed one by one.
use Rattle.std.specs.Prelude.{◌≡◌, ◌≢◌, ◌<◌, ◌≤◌, ℕ, All, List, [], length, map, slice_index_or}
use Rattle.tm_base.specs.Bits.{number_of}
use Rattle.tm_blast.specs.Bits.{input_values}
use Rattle.tm_dd.specs.declared.node.NodeId.{NodeId}
use Rattle.tm_dd.specs.Table.{Table, Knows}
use Rattle.tm_game_bits.specs.Diagrams.{changes_of}
use Rattle.tm_game_bits.specs.Functions.{Assignment, after}
use Rattle.tm_term.specs.declared.term.TermId.{TermId}
use Rattle.tm_term.specs.Table.{Table as Terms}
use Rattle.tm_term.specs.Value.{value_of}

-- the levels of an input
abbrev pub levels_of : List (List ℕ) → ℕ → List ℕ
levels_of levels input = slice_index_or levels input []

-- no change is of a level
abbrev pub IsUnchanged : List (ℕ × NodeId) → ℕ → Type 0
IsUnchanged changes level = All (λ (p : ℕ × NodeId). p.0 ≢ level) changes

-- the numbers of the inputs below one are as terms give them, and no level of the others is changed
pub record AreChangedBelow (t : Terms) (levels : List (List ℕ)) (s : Table) (next : List TermId)
    (changes : List (ℕ × NodeId)) (input : ℕ) : Type 0 where
  pub known : All (λ (p : ℕ × NodeId). Knows s p.1) changes
  pub numbers : (i : ℕ) (d : TermId) → i < input → (v : Assignment) →
      number_of (map (after (changes_of s changes) v) (levels_of levels i))
      ≡ value_of t (input_values levels v) (slice_index_or next i d)
  pub others : (i a : ℕ) → input ≤ i → i < length levels → a < length (levels_of levels i) →
      IsUnchanged changes (slice_index_or (levels_of levels i) a 0)

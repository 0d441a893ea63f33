-- Truths and next numbers of terms, as diagrams over the levels of the inputs.
use Rattle.std.specs.Prelude.{◌≡◌, ◌<◌, ℕ, List, [], map, length, slice_index_or, take}
use Rattle.tm_base.specs.Arithmetic.{bit}
use Rattle.tm_blast.specs.Bits.{input_values}
use Rattle.tm_dd.specs.declared.node.NodeId.{NodeId}
use Rattle.tm_dd.specs.Table.{Table, Knows, means}
use Rattle.tm_game_bits.specs.Diagrams.{KnowsChanges, changes_of}
use Rattle.tm_game_bits.specs.Functions.{Assignment, after}
use Rattle.tm_term.specs.declared.term.TermId.{TermId}
use Rattle.tm_term.specs.Table.{Table as Terms, IsKnown, width_of}
use Rattle.tm_term.specs.Value.{value_of}

-- a known id is true exactly where a term is 1, and the term is 0 elsewhere
pub record IsTruthOf (t : Terms) (levels : List (List ℕ)) (s : Table) (id : TermId) (node : NodeId) : Type 0 where
  pub known : Knows s node
  pub value : (v : Assignment) → value_of t (input_values levels v) id ≡ bit (means s node v)

-- no level is of two bits
abbrev pub AreApart : List (List ℕ) → Type 0
AreApart levels =
    (i j a b : ℕ) → i < length levels → j < length levels → a < length (slice_index_or levels i []) →
    b < length (slice_index_or levels j []) →
    slice_index_or (slice_index_or levels i []) a 0 ≡ slice_index_or (slice_index_or levels j []) b 0 →
    (i ≡ j) × (a ≡ b)

-- the terms of the next numbers are known, each of the width of its input
abbrev pub AreNext : Terms → List TermId → Type 0
AreNext t next =
    (i : ℕ) (d : TermId) → i < length next →
    IsKnown t (slice_index_or next i d) × (width_of t (slice_index_or next i d) ≡ slice_index_or t.inputs i 0)

-- changes of levels lead to the next numbers that terms give
pub record AreChanges (t : Terms) (levels : List (List ℕ)) (s : Table) (next : List TermId)
    (changes : List (ℕ × NodeId)) : Type 0 where
  pub known : KnowsChanges s changes
  pub numbers : (v : Assignment) → input_values (take (length next) levels) (after (changes_of s changes) v)
      ≡ map (value_of t (input_values levels v)) next

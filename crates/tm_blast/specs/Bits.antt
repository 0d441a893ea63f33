-- The bits of a term, as decision diagrams.
use Rattle.std.specs.Prelude.{◌≡◌, ℕ, ◌<◌, Bool, List, length, map, All, slice_index, slice_index_or}
use Rattle.tm_base.specs.Bits.{number_of}
use Rattle.tm_dd.specs.declared.node.NodeId.{NodeId}
use Rattle.tm_dd.specs.Table.{Table, Knows, means}
use Rattle.tm_term.specs.declared.term.TermId.{TermId}
use Rattle.tm_term.specs.Table.{Table as Terms, width_of}
use Rattle.tm_term.specs.Value.{value_of}

-- what ids mean, in order, where v gives each level's value
abbrev pub values_in : Table → List NodeId → (ℕ → Bool) → List Bool
values_in s ids v = map (λ id. means s id v) ids

-- each input has one level for each of its bits, and each level is below the number of levels
pub record AreLevels (t : Terms) (count : ℕ) (levels : List (List ℕ)) : Type 0 where
  pub inputs : length levels ≡ length t.inputs
  pub widths : (i : ℕ) (d : List ℕ) → i < length levels → length (slice_index_or levels i d) ≡ slice_index t.inputs i
  pub below : All (All (λ level. level < count)) levels

-- the values of the inputs where v gives each level's value: the levels of an input list its most significant bit first
abbrev pub input_values : List (List ℕ) → (ℕ → Bool) → List ℕ
input_values levels v = map (λ bits. number_of (map v bits)) levels

-- known ids are the bits of a term, the most significant first: on every assignment they mean the term's value
pub record AreBits (t : Terms) (levels : List (List ℕ)) (s : Table) (id : TermId) (ids : List NodeId) : Type 0 where
  pub known : All (Knows s) ids
  pub width : length ids ≡ width_of t id
  pub value : (v : ℕ → Bool) → number_of (values_in s ids v) ≡ value_of t (input_values levels v) id

-- Sets of states that terms tell.
use Rattle.std.specs.Prelude.{◌≡◌, ℕ, ◌<◌, true, List, length, slice_index_or}
use Rattle.tm_dd.specs.declared.node.NodeId.{NodeId}
use Rattle.tm_dd.specs.Table.{Table}
use Rattle.tm_ddops.specs.Quantified.{AgreeElsewhere}
use Rattle.tm_game_bits.specs.Diagrams.{IsSetOf}
use Rattle.tm_game_bits.specs.Functions.{Assignment, Function}
use Rattle.tm_game_steps.specs.Setting.{Setting, choices_of, values_at}
use Rattle.tm_term.specs.declared.term.TermId.{TermId}
use Rattle.tm_term.specs.Value.{value_of}

-- a term is 1 where a function is true
abbrev pub IsOneIn : Setting → Function → TermId → Assignment → Type 0
IsOneIn x valid id v = (valid v ≡ true) × (value_of x.terms (values_at x v) id ≡ 1)

-- a term is 1 for all choices, where a function is true
abbrev pub IsAlwaysOneIn : Setting → Function → TermId → Assignment → Type 0
IsAlwaysOneIn x valid id v =
    (valid v ≡ true)
    × ((w : Assignment) → AgreeElsewhere (choices_of x) v w → value_of x.terms (values_at x w) id ≡ 1)

-- ids are the sets of terms, in order
pub record AreSets (s : Table) (IsSuch : TermId → Assignment → Type 0) (ids : List TermId) (nodes : List NodeId) :
    Type 0 where
  pub long : length nodes ≡ length ids
  pub each : (i : ℕ) (d : TermId) (e : NodeId) → i < length ids →
      IsSetOf s (IsSuch (slice_index_or ids i d)) (slice_index_or nodes i e)

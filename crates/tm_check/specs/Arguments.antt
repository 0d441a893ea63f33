-- The arguments of calls as diagrams.
use Rattle.std.specs.Prelude.{◌≡◌, ℕ, ◌+◌, ◌^◌, ◌<◌, ◌&&◌, ◌++◌, Bool, true, All, List, map, nat_lt, slice_index_or}
use Rattle.tm_game_bits.specs.Inputs.{input_levels}
use Rattle.tm_game_bits.specs.AssignedStates.{state_of}
use Rattle.tm_blast.specs.Bits as blasted
use Rattle.tm_base.specs.Bits.{bits_of}
use Rattle.tm_cir.specs.Meaning.{num_value}
use Rattle.tm_cir.specs.Tree.{NumTree}
use Rattle.tm_dd.specs.declared.node.NodeId.{NodeId}
use Rattle.tm_dd.specs.declared.node.TheConstants.{FALSE}
use Rattle.tm_dd.specs.Table.{Knows, Table, means}
use Rattle.tm_ddops.specs.Manager.{IsFunction}
use Rattle.tm_game.specs.Inner.Called.{have_widths}
use Rattle.tm_sem.specs.StateBits.{bits_of_numbers, state_widths}
use Rattle.tm_syntax.specs.Design.{DesignTree}
use Rattle.tm_term.specs.declared.term.TermId.{TermId}
use Rattle.tm_term.specs.Table.{Table as Terms}
use Rattle.tm_term.specs.Value.{value_of}

-- the values of expressions at the state that values of levels tell
abbrev pub values_at : DesignTree → List ℕ → ℕ → List NumTree → (ℕ → Bool) → List ℕ
values_at d order goal nums v = map (num_value (state_of d order v) goal) nums

-- a function holds where arguments have the widths of their parameters, and ids are their bits there
pub record AreArguments (d : DesignTree) (order : List ℕ) (s : Table) (goal : ℕ) (widths : List ℕ) (nums : List NumTree)
    (fit : NodeId) (bits : List NodeId) : Type 0 where
  pub fits : IsFunction s fit (λ v. have_widths widths (values_at d order goal nums v))
  pub known : All (Knows s) bits
  pub are : (v : ℕ → Bool) → means s fit v ≡ true →
      blasted.values_in s bits v ≡ bits_of_numbers widths (values_at d order goal nums v)

-- a function holds where another one does and a number has a width, and its bits stand behind others
pub record IsArgument (d : DesignTree) (order : List ℕ) (s t : Table) (goal : ℕ) (num : NumTree) (width : ℕ)
    (fit id : NodeId) (olds news : List NodeId) : Type 0 where
  pub fits : IsFunction t id (λ v. means s fit v && nat_lt (num_value (state_of d order v) goal num) (2 ^ width))
  pub bits : List NodeId
  pub behind : news ≡ olds ++ bits
  pub known : All (Knows t) bits
  pub are : (v : ℕ → Bool) → blasted.values_in t bits v ≡ bits_of width (num_value (state_of d order v) goal num)

-- a function holds where a term, if it is worth a number of 64 bits, is worth one of a width
pub record IsFitting (d : DesignTree) (order : List ℕ) (terms : Terms) (s : Table) (num : TermId) (width : ℕ)
    (id : NodeId) : Type 0 where
  pub known : Knows s id
  pub meaning : (v : ℕ → Bool) →
      value_of terms (blasted.input_values (input_levels order (state_widths d)) v) num < 2 ^ 64 →
      means s id v
      ≡ nat_lt (value_of terms (blasted.input_values (input_levels order (state_widths d)) v) num) (2 ^ width)

-- the part of a level: the bit of its number from a first level on, which is false behind the last one
abbrev pub placed : ℕ → List NodeId → ℕ → ℕ × NodeId
placed first bits index = (first + index, slice_index_or bits index FALSE)

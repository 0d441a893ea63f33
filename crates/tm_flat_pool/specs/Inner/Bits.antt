-- The bits of a state that are no atoms, and their terms.
use Rattle.std.specs.Prelude.{◌≡◌, ℕ, ◌/◌, ◌%◌, ◌^◌, Bool, false, not, ◌&&◌, List, ◌++◌, map, slice_get, slice_index, slice_index_or}
use Rattle.std.specs.List.{AllZip, filter, range_with_len}
use Rattle.std.specs.Option.{option_map_or}
use Rattle.tm_syntax.specs.declared.design.Var.{Var}
use Rattle.tm_syntax.specs.Design.{DesignTree}
use Rattle.tm_term.specs.declared.term.TermId.{TermId}
use Rattle.tm_term.specs.Table.{Table, IsSound}
use Rattle.tm_term.specs.Value.{AreInputs, value_of, Extends}
use Rattle.tm_flat.specs.Steps.{IsTerm}
use Rattle.tm_sem.specs.StateBits.{state_widths}
use Rattle.tm_flat_pool.specs.Predicates.{first_place, is_atom, is_bool, of_bit}
use Rattle.tm_flat_pool.specs.PoolTerms.{IsPredicateTerm}

-- the bit of this weight of the input of this number, over values of the inputs
abbrev pub bit_in : List ℕ → ℕ → ℕ → ℕ
bit_in v i weight = slice_index v i / 2 ^ weight % 2

-- over a table a term is the bit of this weight of the input of this number
pub record IsBit (u : Table) (i weight : ℕ) (id : TermId) : Type 0 where
  pub term : IsTerm u 1 id
  pub value : (v : List ℕ) → AreInputs u v → value_of u v id ≡ bit_in v i weight

-- the terms of the bits of these weights of an input were pushed
pub record PushesBits (i : ℕ) (weights : List ℕ) (t n : Table) (before after : List TermId) : Type 0 where
  pub grown : Extends t n
  pub sound : IsSound n
  pub part : List TermId
  pub is : after ≡ before ++ part
  pub each : (u : Table) → Extends n u → AllZip (IsBit u i) weights part

-- whether a number of a state is a bool variable that is marked
abbrev pub is_marked : DesignTree → List Bool → ℕ → Bool
is_marked d marks i =
    option_map_or (λ (var : Var). is_bool var.ty && slice_index_or marks i false) (slice_get d.vars i) false

-- of so many places from one on, those of the bits that are no atoms
abbrev pub places_from : DesignTree → ℕ → ℕ → List ℕ
places_from d start count = filter (λ place. not (is_atom d place)) (range_with_len start count)

-- the terms of the bits of the number of this index that are no atoms were pushed
pub record PushesNumber (d : DesignTree) (i : ℕ) (t n : Table) (before after : List TermId) : Type 0 where
  pub grown : Extends t n
  pub sound : IsSound n
  pub part : List TermId
  pub is : after ≡ before ++ part
  pub each : (u : Table) → Extends n u →
      AllZip (IsPredicateTerm u d) (map of_bit (places_from d (first_place d i) (slice_index (state_widths d) i))) part

-- the terms of the bits of so many numbers that are no atoms were made
pub record AreBitTerms (d : DesignTree) (count : ℕ) (t n : Table) (ids : List TermId) : Type 0 where
  pub grown : Extends t n
  pub sound : IsSound n
  pub each : (u : Table) → Extends n u →
      AllZip (IsPredicateTerm u d) (map of_bit (places_from d 0 (first_place d count))) ids

-- The pool of predicates of a design (predicate abstraction, as in Walker and Ryzhyk 2014): the atoms of its
-- conditions, and the bits of its states.
use Rattle.std.specs.Prelude.{ℕ, Bool, true, false, not, ◌&&◌, ◌==◌, List, ◌++◌, map, slice_get, slice_index_or, take}
use Rattle.std.specs.Option.{option_map_or}
use Rattle.std.specs.List.{filter, list_any, sum, range_with_len}
use Rattle.tm_syntax.specs.declared.design.Var.{Var}
use Rattle.tm_syntax.specs.declared.design.Ty.{Ty}
use Rattle.tm_syntax.specs.declared.design.Ty.TheVariants as types
use Rattle.tm_syntax.specs.Design.{DesignTree}
use Rattle.tm_syntax.specs.Design.Atoms.{Atom, Resolved, a_variable, resolved_atom, pool_atoms}
use Rattle.tm_sem.specs.State.{StateData}
use Rattle.tm_sem.specs.StateBits.{state_bits, state_widths}
use Rattle.tm_sem.specs.Step.{memory_of}
use Rattle.tm_sem.specs.Value.{holds_in}

-- a predicate on states
pub data Predicate : Type 0 where
  -- an atom of a condition
  of_atom : Atom → Predicate
  -- the bit of this place
  of_bit : ℕ → Predicate

-- whether a predicate holds at a state; an element past the end of its array has the value 0
abbrev pub predicate_holds : DesignTree → StateData → Predicate → Bool
predicate_holds d s (of_atom a) = holds_in d a.scope (memory_of s) a.expr
predicate_holds d s (of_bit place) = slice_index_or (state_bits d s) place false

-- the place of the first bit of the number of this index
abbrev pub first_place : DesignTree → ℕ → ℕ
first_place d k = sum (take k (state_widths d))

-- whether a type is that of bools
abbrev pub is_bool : Ty → Bool
is_bool types.Bool = true
is_bool _ = false

-- whether the bit of this place is all of the bool variable of this number
abbrev pub is_bit_of : DesignTree → ℕ → ℕ → Bool
is_bit_of d place v =
    option_map_or (λ (var : Var). is_bool var.ty && first_place d v == place) (slice_get d.vars v) false

-- whether an atom is the bool variable whose bit has this place
abbrev pub is_bit : DesignTree → ℕ → Resolved → Bool
is_bit d place (a_variable v) = is_bit_of d place v
is_bit d place _ = false

-- whether the bit of this place is the same predicate as an atom of the pool
abbrev pub is_atom : DesignTree → ℕ → Bool
is_atom d place = list_any (λ a. is_bit d place (resolved_atom d a)) (pool_atoms d)

-- the places of the state bits that are no atoms
abbrev pub pool_places : DesignTree → List ℕ
pool_places d = filter (λ place. not (is_atom d place)) (range_with_len 0 (sum (state_widths d)))

-- the pool: the atoms in order, then every state bit by place, none of them twice
abbrev pub pool : DesignTree → List Predicate
pool d = map of_atom (pool_atoms d) ++ map of_bit (pool_places d)

-- Predicates as functions of levels.
-- d a design, g its game, s diagrams, f a function, v and w values of levels, k the number of a predicate in the pool.
use Rattle.std.specs.Prelude.{◌≡◌, ◌↔◌, ℕ, ◌+◌, List, Some, Contains, length, slice_get}
use Rattle.tm_base.specs.Arithmetic.{bit}
use Rattle.tm_blast.specs.Bits.{input_values}
use Rattle.tm_dd.specs.declared.node.NodeId.{NodeId}
use Rattle.tm_dd.specs.Table.{Table, Knows, means}
use Rattle.tm_ddops.specs.Support.{DependsOn}
use Rattle.tm_flat_pool.specs.Predicates.{Predicate, pool, predicate_holds}
use Rattle.tm_game.specs.Game.{GameData}
use Rattle.tm_game_bits.specs.AssignedStates.{state_of}
use Rattle.tm_game_bits.specs.Functions.{Assignment, Function}
use Rattle.tm_game_bits.specs.Inputs.{input_levels}
use Rattle.tm_game_bits.specs.States.{ReadsState}
use Rattle.tm_sem.specs.StateBits.{state_widths}
use Rattle.tm_sem.specs.Step.{IsState}
use Rattle.tm_syntax.specs.Design.{DesignTree}
use Rattle.tm_term.specs.declared.term.TermId.{TermId}
use Rattle.tm_term.specs.Value.{value_of}

-- at values of a valid state a function is true exactly where a predicate holds
abbrev pub Tells : DesignTree → List ℕ → Function → Predicate → Type 0
Tells d order f p =
    (v : Assignment) → IsState d (state_of d order v) → f v ≡ predicate_holds d (state_of d order v) p

-- a function tells one of some predicates
abbrev pub TellsOne : DesignTree → List ℕ → List Predicate → Function → Type 0
TellsOne d order predicates f = (p : Predicate) × Contains predicates p × Tells d order f p

-- a function is the value of the term of a predicate of the pool
abbrev pub IsPoolFunction : DesignTree → GameData → ℕ → Function → Type 0
IsPoolFunction d g k f =
    (term : TermId) × (slice_get g.flat.pool k ≡ Some term) ×
    ((v : Assignment) →
    value_of g.terms (input_values (input_levels g.order (state_widths d)) v) term ≡ bit (f v))

-- an id is known, and means such a function; that reads the levels of inputs alone, and tells the predicate
pub record IsPredicate (d : DesignTree) (g : GameData) (s : Table) (k : ℕ) (id : NodeId) : Type 0 where
  pub known : Knows s id
  pub function : IsPoolFunction d g k (means s id)
  pub inputs : ReadsState (length g.order + 128) (means s id)
  pub tells : (p : Predicate) → slice_get (pool d) k ≡ Some p → Tells d g.order (means s id) p

-- the value of a level, as a function
abbrev pub bit_at : ℕ → Function
bit_at k v = v k

-- an id means the same wherever these levels have the same values
abbrev pub ReadsOnly : Table → NodeId → List ℕ → Type 0
ReadsOnly s id levels =
    (v w : Assignment) → ((k : ℕ) → Contains levels k → v k ≡ w k) → means s id v ≡ means s id w

-- levels are those that an id depends on
pub record AreRead (s : Table) (id : NodeId) (levels : List ℕ) : Type 0 where
  pub exact : (k : ℕ) → Contains levels k ↔ DependsOn s id k
  pub only : ReadsOnly s id levels

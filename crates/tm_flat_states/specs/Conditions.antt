-- Conditions on states, as terms.
use Rattle.std.specs.Prelude.{◌≡◌, ℕ, Bool, true, List, Option, Some, length, slice_get, take}
use Rattle.std.specs.List.{AllZip}
use Rattle.std.specs.Option.{option_map_or}
use Rattle.tm_base.specs.Arithmetic.{bit}
use Rattle.tm_syntax.specs.declared.design.Item.{Item}
use Rattle.tm_syntax.specs.Tree.{ExprTree}
use Rattle.tm_syntax.specs.Scopes.Context.{outside}
use Rattle.tm_syntax.specs.Design.{DesignTree}
use Rattle.tm_scope.specs.Cells.{CellTables}
use Rattle.tm_term.specs.declared.term.TermId.{TermId}
use Rattle.tm_term.specs.Table.{Table, IsSound}
use Rattle.tm_term.specs.Value.{AreInputs, value_of, Extends}
use Rattle.tm_sem.specs.Value.{Memory, holds_in, plain_memory}
use Rattle.tm_flat.specs.Steps.{IsInput, IsTerm}
use Rattle.tm_flat_exprs.specs.Kept.{AreKept, Keeps, KeptTerms}

-- the values of the state variables, from values of the inputs
abbrev pub memory_in : DesignTree → List ℕ → Memory
memory_in d v = plain_memory (take (length d.vars) v)

-- whether what stands outside of the bodies of an instance holds there; what has no expression always does
abbrev pub stated : DesignTree → ℕ → Option ExprTree → List ℕ → Bool
stated d n e v = option_map_or (holds_in d (record { instance = n; body = outside }) (memory_in d v)) e true

-- the inputs of so many numbers were made
pub record AreInputTerms (t n : Table) (count : ℕ) (ids : List TermId) : Type 0 where
  pub grown : Extends t n
  pub sound : IsSound n
  pub as_many : length ids ≡ count
  pub each : (i : ℕ) (id : TermId) → slice_get ids i ≡ Some id → IsInput n i id

-- a memory has the inputs of the state variables
pub record HasInputs (x : CellTables) (n : Table) (k : KeptTerms) : Type 0 where
  pub sound : IsSound n
  pub kept : AreKept x n k
  pub keeps : (u : Table) → Extends n u → (v : List ℕ) → AreInputs u v →
      Keeps x u v k (plain_memory (take (length x.vars) v))

-- a memory was made of the inputs
pub record MakesMemory (x : CellTables) (t n : Table) (k : KeptTerms) : Type 0 where
  pub grown : Extends t n
  pub inputs : HasInputs x n k

-- over a table a term is a truth that holds where the expression of an item does
pub record IsStated (d : DesignTree) (expr : Item → Option ExprTree) (u : Table) (item : Item) (id : TermId) : Type 0
  where
    pub term : IsTerm u 1 id
    pub value : (v : List ℕ) → AreInputs u v → value_of u v id ≡ bit (stated d item.instance (expr item) v)

-- such terms were made of some items
pub record AreStated (d : DesignTree) (expr : Item → Option ExprTree) (items : List Item) (t n : Table)
    (ids : List TermId) : Type 0 where
  pub grown : Extends t n
  pub sound : IsSound n
  pub each : (u : Table) → Extends n u → AllZip (IsStated d expr u) items ids

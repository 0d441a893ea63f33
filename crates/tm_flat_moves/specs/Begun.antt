-- Where the runs of a step begin.
use Rattle.std.specs.Prelude.{◌≡◌, ℕ, ◌+◌, Some, List, length, slice_get, take}
use Rattle.tm_scope.specs.Cells.{CellTables}
use Rattle.tm_term.specs.declared.term.TermId.{TermId}
use Rattle.tm_term.specs.Table.{Table, IsSound}
use Rattle.tm_term.specs.Value.{AreInputs, Extends}
use Rattle.tm_sem.specs.Value.{plain_memory}
use Rattle.tm_flat.specs.Steps.{IsInput}
use Rattle.tm_flat_exprs.specs.Kept.{Keeps}
use Rattle.tm_flat_stmts.specs.Flows.{FlowTerms, HasTerm, IsFlow}

-- the inputs of so many numbers were made, from one number on
pub record AreInputTerms (t n : Table) (first count : ℕ) (ids : List TermId) : Type 0 where
  pub grown : Extends t n
  pub sound : IsSound n
  pub as_many : length ids ≡ count
  pub each : (i : ℕ) (id : TermId) → slice_get ids i ≡ Some id → IsInput n (first + i) id

-- a flow was made of the runs that begin where a truth holds: their memory is the inputs
pub record Begins (x : CellTables) (t n : Table) (guard : TermId) (f : FlowTerms) : Type 0 where
  pub grown : Extends t n
  pub sound : IsSound n
  pub flow : IsFlow x n f
  pub stands : f.guard ≡ guard
  pub position : f.position ≡ 0
  pub inputs : (i : ℕ) (id : TermId) → HasTerm i id f → IsInput n i id
  pub keeps : (u : Table) → Extends n u → (v : List ℕ) → AreInputs u v →
      Keeps x u v f.memory (plain_memory (take (length x.vars) v))

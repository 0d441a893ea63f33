-- What is put into elements of arrays.
use Rattle.std.specs.Prelude.{◌≡◌, ◌<◌, ◌==◌, ℕ, false, Option, Some, List, nat_lt, if◌then◌else◌}
use Rattle.std.specs.Option.{option_map_or}
use Rattle.tm_syntax.specs.declared.tree.Ident.{Ident}
use Rattle.tm_syntax.specs.Tree.{ExprTree, element}
use Rattle.tm_syntax.specs.Design.{DesignTree}
use Rattle.tm_syntax.specs.Design.Scope.{length_in}
use Rattle.tm_syntax.specs.Design.Cells.{Cell, cell}
use Rattle.tm_scope.specs.Cells.{HasCells, ScopedCells, scope_of}
use Rattle.tm_term.specs.declared.term.TermId.{TermId}
use Rattle.tm_term.specs.Table.{Table, IsSound}
use Rattle.tm_term.specs.Value.{AreInputs, value_of, Extends}
use Rattle.tm_sem.specs.Run.{put_in}
use Rattle.tm_sem.specs.Value.{Memory, index_value, overruns}
use Rattle.tm_flat.specs.Writes.{is_variable, target_writes}
use Rattle.tm_flat_exprs.specs.Kept.{Keeps}
use Rattle.tm_flat_exprs.specs.Merged.{IsMemory}
use Rattle.tm_flat_exprs.specs.Valued.{element_value}
use Rattle.tm_flat_stmts.specs.Flows.{FlowTerms, HasTerm}

-- in each design of some tables a path means a cell
abbrev pub HasCell : ScopedCells → List Ident → Option ℕ → Type 0
HasCell s names index =
    (d : DesignTree) → HasCells s.tables d → (c : Cell) × (cell d (scope_of s.at) names index ≡ Some c)

-- in each of them each element of an array has a cell
abbrev pub HasElements : ScopedCells → List Ident → Type 0
HasElements s names =
    (d : DesignTree) → HasCells s.tables d → (size k : ℕ) → length_in d (scope_of s.at) names ≡ Some size → k < size →
    (c : Cell) × (cell d (scope_of s.at) names (Some k) ≡ Some c)

-- a flow was made of another one: a term was put into the element of a number where another term is that number, and
-- elsewhere what the element had
pub record PutsOne (s : ScopedCells) (names : List Ident) (number : ℕ) (index id : TermId) (t n : Table)
    (f g : FlowTerms) : Type 0 where
  pub grown : Extends t n
  pub sound : IsSound n
  pub guard : g.guard ≡ f.guard
  pub position : g.position ≡ f.position
  pub memory : IsMemory s.tables n g.memory
  pub keeps : (u : Table) → Extends n u → (v : List ℕ) → AreInputs u v → (d : DesignTree) → HasCells s.tables d →
      (m : Memory) → Keeps s.tables u v f.memory m →
      Keeps s.tables u v g.memory (put_in m (cell d (scope_of s.at) names (Some number))
      (if value_of u v index == number
      then value_of u v id
      else element_value d (scope_of s.at) m names number))
  pub leaves : (d : DesignTree) → HasCells s.tables d → (i : ℕ) (had : TermId) →
      option_map_or (is_variable i) (cell d (scope_of s.at) names (Some number)) false ≡ false → HasTerm i had f →
      HasTerm i had g

-- into the element that another term numbers, where it is one of so many
pub record PutsSome (s : ScopedCells) (names : List Ident) (index : TermId) (count : ℕ) (id : TermId) (t n : Table)
    (f g : FlowTerms) : Type 0 where
  pub grown : Extends t n
  pub sound : IsSound n
  pub guard : g.guard ≡ f.guard
  pub position : g.position ≡ f.position
  pub memory : IsMemory s.tables n g.memory
  pub keeps : (u : Table) → Extends n u → (v : List ℕ) → AreInputs u v → (d : DesignTree) → HasCells s.tables d →
      (m : Memory) → Keeps s.tables u v f.memory m →
      Keeps s.tables u v g.memory
      (if nat_lt (value_of u v index) count
      then put_in m (cell d (scope_of s.at) names (Some (value_of u v index))) (value_of u v id)
      else m)
  pub leaves : (d : DesignTree) → HasCells s.tables d → (i : ℕ) (had : TermId) →
      ((k : ℕ) → k < count → option_map_or (is_variable i) (cell d (scope_of s.at) names (Some k)) false ≡ false) →
      HasTerm i had f → HasTerm i had g

-- into the element that an index numbers, where it does not overrun
pub record PutsElement (s : ScopedCells) (names : List Ident) (index : ExprTree) (id : TermId) (t n : Table)
    (f g : FlowTerms) : Type 0 where
  pub grown : Extends t n
  pub sound : IsSound n
  pub guard : g.guard ≡ f.guard
  pub position : g.position ≡ f.position
  pub memory : IsMemory s.tables n g.memory
  pub keeps : (u : Table) → Extends n u → (v : List ℕ) → AreInputs u v → (d : DesignTree) → HasCells s.tables d →
      (m : Memory) → Keeps s.tables u v f.memory m → overruns d (scope_of s.at) m (element names index) ≡ false →
      Keeps s.tables u v g.memory
      (put_in m (cell d (scope_of s.at) names (Some (index_value d (scope_of s.at) m index))) (value_of u v id))
  pub leaves : (d : DesignTree) → HasCells s.tables d → (i : ℕ) (had : TermId) →
      target_writes d (scope_of s.at) i names (Some index) ≡ false → HasTerm i had f → HasTerm i had g

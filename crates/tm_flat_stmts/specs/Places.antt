-- Where targets of assignments are, and what is put there.
use Rattle.std.specs.Prelude.{◌≡◌, ◌≤◌, ◌^◌, ⊤, ℕ, Bool, false, Option, None, Some, List, nat_lt, if◌then◌else◌}
use Rattle.std.specs.List.{list_any, range_with_len}
use Rattle.std.specs.Option.{option_map_or}
use Rattle.tm_syntax.specs.declared.tree.Ident.{Ident}
use Rattle.tm_syntax.specs.Tree.{ExprTree, element}
use Rattle.tm_syntax.specs.Design.{DesignTree}
use Rattle.tm_syntax.specs.Design.Scope.{Scope}
use Rattle.tm_syntax.specs.Design.Cells.{Cell, cell}
use Rattle.tm_scope.specs.Cells.{HasCells, ScopedCells, scope_of}
use Rattle.tm_term.specs.declared.term.TermId.{TermId}
use Rattle.tm_term.specs.Table.{IsKnown, IsSound, Table, width_of}
use Rattle.tm_term.specs.Value.{AreInputs, Extends, value_of}
use Rattle.tm_sem.specs.Run.{put_in}
use Rattle.tm_sem.specs.Value.{Memory, index_value, overruns}
use Rattle.tm_flat.specs.Writes.{is_variable, target_writes}
use Rattle.tm_flat_exprs.specs.Kept.{KeptTerms, Keeps}
use Rattle.tm_flat_exprs.specs.Merged.{IsMemory}
use Rattle.tm_flat_stmts.specs.Flows.{FlowTerms, HasTerm}
use Rattle.tm_flat_stmts.specs.declared.places.TargetPlace.{TargetPlace}
use Rattle.tm_flat_stmts.specs.declared.places.TargetPlace.TheVariants.{Whole, Number, Found}

-- the cell of a place, by the values of the inputs: there is none past the end of what a term numbers
abbrev pub place_cell : Table → List ℕ → DesignTree → Scope → List Ident → TargetPlace → Option Cell
place_cell t v d scope names Whole = cell d scope names None
place_cell t v d scope names (Number n) = cell d scope names (Some n)
place_cell t v d scope names (Found id count) =
    if nat_lt (value_of t v id) count then cell d scope names (Some (value_of t v id)) else None

-- whether it may be the state variable of a number
abbrev pub place_writes : DesignTree → Scope → ℕ → List Ident → TargetPlace → Bool
place_writes d scope i names Whole = option_map_or (is_variable i) (cell d scope names None) false
place_writes d scope i names (Number n) = option_map_or (is_variable i) (cell d scope names (Some n)) false
place_writes d scope i names (Found id count) =
    list_any (λ k. option_map_or (is_variable i) (cell d scope names (Some k)) false) (range_with_len 0 count)

-- a term that numbers elements is known, and can number each of them
abbrev pub IsPlace : Table → TargetPlace → Type 0
IsPlace t Whole = ⊤
IsPlace t (Number n) = ⊤
IsPlace t (Found id count) = IsKnown t id × (count ≤ 2 ^ width_of t id)

-- where the element is that an index numbers was found, where terms are kept in a memory and the index does not overrun
pub record FindsPlace (s : ScopedCells) (k : KeptTerms) (names : List Ident) (index : ExprTree) (t n : Table)
    (place : TargetPlace) : Type 0 where
  pub grown : Extends t n
  pub sound : IsSound n
  pub known : IsPlace n place
  pub is : (u : Table) → Extends n u → (v : List ℕ) → AreInputs u v → (d : DesignTree) → HasCells s.tables d →
      (m : Memory) → Keeps s.tables u v k m → overruns d (scope_of s.at) m (element names index) ≡ false →
      cell d (scope_of s.at) names (Some (index_value d (scope_of s.at) m index))
      ≡ place_cell u v d (scope_of s.at) names place
  pub writes : (d : DesignTree) → HasCells s.tables d → (i : ℕ) →
      target_writes d (scope_of s.at) i names (Some index) ≡ false →
      place_writes d (scope_of s.at) i names place ≡ false

-- a flow was made of another one: a term was put into the cell of a place
pub record PutsPlace (s : ScopedCells) (names : List Ident) (place : TargetPlace) (id : TermId) (t n : Table)
    (f g : FlowTerms) : Type 0 where
  pub grown : Extends t n
  pub sound : IsSound n
  pub guard : g.guard ≡ f.guard
  pub position : g.position ≡ f.position
  pub memory : IsMemory s.tables n g.memory
  pub keeps : (u : Table) → Extends n u → (v : List ℕ) → AreInputs u v → (d : DesignTree) → HasCells s.tables d →
      (m : Memory) → Keeps s.tables u v f.memory m →
      Keeps s.tables u v g.memory (put_in m (place_cell u v d (scope_of s.at) names place) (value_of u v id))
  pub leaves : (d : DesignTree) → HasCells s.tables d → (i : ℕ) (had : TermId) →
      place_writes d (scope_of s.at) i names place ≡ false → HasTerm i had f → HasTerm i had g

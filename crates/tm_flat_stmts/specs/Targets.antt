-- Targets of assignments, and what is put into them.
use Rattle.std.specs.Prelude.{◌≡◌, ℕ, false, Option, Some, List}
use Rattle.std.specs.Option.{option_map_or}
use Rattle.tm_syntax.specs.declared.tree.Ident.{Ident}
use Rattle.tm_syntax.specs.declared.design.Ty.{Ty}
use Rattle.tm_syntax.specs.Design.{DesignTree}
use Rattle.tm_syntax.specs.Design.Cells.{cell}
use Rattle.tm_syntax.specs.Scopes.Context.{Context}
use Rattle.tm_syntax.specs.Scopes.Types.{named_type}
use Rattle.tm_scope.specs.Cells.{HasCells, ScopedCells, scope_of}
use Rattle.tm_term.specs.declared.term.TermId.{TermId}
use Rattle.tm_term.specs.Table.{Table}
use Rattle.tm_term.specs.Value.{value_of}
use Rattle.tm_typing.specs.HasType.{IsSized}
use Rattle.tm_design.specs.Typed.{context_at}
use Rattle.tm_sem.specs.Run.{put_in}
use Rattle.tm_sem.specs.Value.{Memory}
use Rattle.tm_flat.specs.Steps.{IsTerm}
use Rattle.tm_flat.specs.Writes.{is_variable}
use Rattle.tm_flat_exprs.specs.Kept.{Keeps}
use Rattle.tm_design.specs.StepCells.{AreApart}
use Rattle.tm_flat_exprs.specs.Merged.{IsMemory}
use Rattle.tm_flat_exprs.specs.Valued.{CellHasType, bits_in}
use Rattle.tm_flat_stmts.specs.Flows.{FlowTerms, HasTerm}

-- a path that is assigned in a body of an instance has this type
pub record HasTargetAt (s : ScopedCells) (ty : Ty) (names : List Ident) : Type 0 where
  pub context : Context
  pub stands : context_at s ≡ Some context
  pub sized : IsSized ty
  pub named : named_type context names ≡ Some ty

-- a flow was made of another one: a term was put into the cell that a path means, if there is one
pub record Puts (s : ScopedCells) (names : List Ident) (index : Option ℕ) (id : TermId) (f g : FlowTerms) : Type 0 where
  pub guard : g.guard ≡ f.guard
  pub position : g.position ≡ f.position
  pub memory : (t : Table) (ty : Ty) → IsMemory s.tables t f.memory → CellHasType s names index ty →
      IsTerm t (bits_in s ty) id → IsMemory s.tables t g.memory
  pub keeps : AreApart s.tables → (u : Table) (v : List ℕ) (d : DesignTree) → HasCells s.tables d → (m : Memory) →
      Keeps s.tables u v f.memory m →
      Keeps s.tables u v g.memory (put_in m (cell d (scope_of s.at) names index) (value_of u v id))
  pub leaves : (d : DesignTree) → HasCells s.tables d → (i : ℕ) (had : TermId) →
      option_map_or (is_variable i) (cell d (scope_of s.at) names index) false ≡ false → HasTerm i had f →
      HasTerm i had g

-- Where the targets are to which calls return.
use Rattle.std.specs.Prelude.{◌≡◌, false, Option, List, ℕ}
use Rattle.std.specs.List.{list_any}
use Rattle.std.specs.Option.{option_map}
use Rattle.tm_syntax.specs.declared.tree.Ident.{Ident}
use Rattle.tm_syntax.specs.Tree.{ExprTree}
use Rattle.tm_syntax.specs.Design.{DesignTree}
use Rattle.tm_syntax.specs.Design.Cells.{cell}
use Rattle.tm_scope.specs.Cells.{HasCells, ScopedCells, scope_of}
use Rattle.tm_term.specs.Table.{Table}
use Rattle.tm_term.specs.Value.{AreInputs, Extends}
use Rattle.tm_sem.specs.Run.{target_element}
use Rattle.tm_sem.specs.Value.{Memory, index_value, overruns}
use Rattle.tm_flat.specs.Writes.{target_writes}
use Rattle.tm_flat_exprs.specs.Kept.{Keeps}
use Rattle.tm_flat_stmts.specs.Flows.{FlowTerms}
use Rattle.tm_flat_stmts.specs.Statements.{Asks}
use Rattle.tm_flat_stmts.specs.Places.{IsPlace, place_cell, place_writes}
use Rattle.tm_flat_bodies.specs.declared.aims.Aim.{Aim}
use Rattle.tm_flat_bodies.specs.declared.course.Course.{Course}

-- where a target is was found: it fails where the target overruns, and else the cell of the place is the one that is
-- assigned
pub record Aims (s : ScopedCells) (names : List Ident) (index : Option ExprTree) (from now : Course) (f : FlowTerms)
    (aim : Aim) : Type 0 where
  pub asks : Asks s (target_element names index) from.terms now.terms f from.ends aim.flow now.ends
  pub known : IsPlace now.terms aim.place
  pub is : (u : Table) → Extends now.terms u → (v : List ℕ) → AreInputs u v → (d : DesignTree) →
      HasCells s.tables d → (m : Memory) → Keeps s.tables u v f.memory m →
      list_any (overruns d (scope_of s.at) m) (target_element names index) ≡ false →
      cell d (scope_of s.at) names (option_map (index_value d (scope_of s.at) m) index)
      ≡ place_cell u v d (scope_of s.at) names aim.place
  pub writes : (d : DesignTree) → HasCells s.tables d → (i : ℕ) →
      target_writes d (scope_of s.at) i names index ≡ false →
      place_writes d (scope_of s.at) i names aim.place ≡ false

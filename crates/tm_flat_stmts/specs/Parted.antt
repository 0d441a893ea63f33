-- Runs that are parted by a condition.
use Rattle.std.specs.Prelude.{◌≡◌, ℕ, Option, Some, List, [], ◌∷◌, not, if◌then◌else◌}
use Rattle.tm_base.specs.declared.place.Place.{Place}
use Rattle.tm_syntax.specs.Tree.{ExprTree}
use Rattle.tm_syntax.specs.Design.{DesignTree}
use Rattle.tm_scope.specs.Cells.{HasCells, ScopedCells, scope_of}
use Rattle.tm_term.specs.Table.{Table, IsSound}
use Rattle.tm_term.specs.Value.{AreInputs, Extends}
use Rattle.tm_sem.specs.Run.{blocked, finished}
use Rattle.tm_sem.specs.Value.{holds_in}
use Rattle.tm_flat_stmts.specs.declared.branches.Branches.{Branches}
use Rattle.tm_flat_stmts.specs.Flows.{EndTerms, FlowTerms, IsFlow, Leads}
use Rattle.tm_flat_stmts.specs.Statements.{Asks}

-- a condition was valued where a run stands: it fails where the condition overruns, and else goes on in the first of
-- two flows where the condition holds, and in the second one where it does not
pub record Parts (s : ScopedCells) (e : ExprTree) (t n : Table) (f : FlowTerms) (before after : EndTerms)
    (parts : Branches) : Type 0 where
  pub table : Table
  pub flow : FlowTerms
  pub asks : Asks s (e ∷ []) t table f before flow after
  pub grown : Extends table n
  pub sound : IsSound n
  pub first_flow : IsFlow s.tables n parts.first
  pub second_flow : IsFlow s.tables n parts.second
  pub first_position : parts.first.position ≡ f.position
  pub second_position : parts.second.position ≡ f.position
  pub first_memory : parts.first.memory ≡ f.memory
  pub second_memory : parts.second.memory ≡ f.memory
  pub first : (d : DesignTree) → HasCells s.tables d → (number : Place → List Place → Option ℕ) → (u : Table) →
      Extends n u → (v : List ℕ) → AreInputs u v → (ends : EndTerms) →
      Leads s.tables u v number (λ m. if holds_in d (scope_of s.at) m e then finished m else blocked) (Some flow) ends
      (Some parts.first) ends
  pub second : (d : DesignTree) → HasCells s.tables d → (number : Place → List Place → Option ℕ) → (u : Table) →
      Extends n u → (v : List ℕ) → AreInputs u v → (ends : EndTerms) →
      Leads s.tables u v number (λ m. if not (holds_in d (scope_of s.at) m e) then finished m else blocked)
      (Some flow) ends (Some parts.second) ends

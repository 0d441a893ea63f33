-- Ranks of the bodies of a design, by which no body reaches itself by calls.
use Rattle.std.specs.Prelude.{◌≡◌, ℕ, suc, ◌<◌, Some, List}
use Rattle.std.specs.List.{AllByRecursion}
use Rattle.tm_syntax.specs.declared.tree.Ident.{Ident}
use Rattle.tm_syntax.specs.Tree.{StmtTree}
use Rattle.tm_syntax.specs.Scopes.Context.{process_body}
use Rattle.tm_syntax.specs.Scopes.Parts.{own_calls, stmts_in}
use Rattle.tm_syntax.specs.Scopes.Pauses.{call_depth}
use Rattle.tm_syntax.specs.Design.{DesignTree}
use Rattle.tm_syntax.specs.Design.Atoms.{body_atoms}
use Rattle.tm_syntax.specs.Design.Cells.{Called, called}
use Rattle.tm_syntax.specs.Design.Scope.{Scope}
use Rattle.tm_scope.specs.Instances.{task_called_at}
use Rattle.tm_scope.specs.declared.members.SiteTask.{SiteTask}

-- what a path calls has a lower rank than the scope that calls it
abbrev pub Descends : DesignTree → (Scope → ℕ) → Scope → List Ident → Type 0
Descends d rank scope path = (k : Called) → called d scope path ≡ Some k → rank k.scope < rank scope

-- so has all that statements call
abbrev pub AllDescend : DesignTree → (Scope → ℕ) → Scope → List StmtTree → Type 0
AllDescend d rank scope ss = AllByRecursion (λ s. AllByRecursion (Descends d rank scope) (own_calls s)) ss

-- tasks call tasks of lower ranks alone, and have the same atoms one call deeper
pub record IsRanked (d : DesignTree) (rank : Scope → ℕ) : Type 0 where
  pub tasks : (task : SiteTask) (k : Called) → task_called_at d task ≡ Some k →
      AllDescend d rank k.scope (stmts_in k.body)
  pub processes : (i k : ℕ) (path : List Ident) → Descends d rank (record { instance = i; body = process_body k }) path
  pub settled : (task : SiteTask) (k : Called) → task_called_at d task ≡ Some k →
      body_atoms (suc (call_depth d.spec)) d k.scope k.body ≡ body_atoms (call_depth d.spec) d k.scope k.body

-- The scope of a body among those of its template.
use Rattle.std.proofs.Common.{◌≡◌, ℕ, Option, None, Some, List, [], ◌++◌, slice_get, refl, sym, subst}
use Rattle.std.specs.Borrow.{Bor}
use Rattle.std.specs.Option.{option_copied, option_map_or}
use Rattle.tm_syntax.specs.Tree.{ProcessTree, TemplateTree}
use Rattle.tm_syntax.specs.Scopes.Declared.{Declared, locals, members, slots, task_slots}
use Rattle.tm_scope.specs.Context.{body_name}
use Rattle.tm_scope.specs.declared.context.BodyName.{BodyName}
use Rattle.tm_scope.specs.declared.context.BodyName.TheVariants.{Process, Task}
use Rattle.tm_names.specs.ScopeNames.{IsScopeWithin}
use Rattle.tm_names.specs.TextScopes.{AreTemplateScopes, Each}
use Rattle.tm_names.specs.Sites.{IsBodyScope}
use Rattle.tm_names.specs.declared.scopes.scope.Scope.{Scope}
use Rattle.tm_names.specs.declared.scopes.text_scopes.TemplateScopes.{TemplateScopes}
use Rattle.tm_names.proofs.Together.{each_at, each_back, each_there}

-- the scope at an index, if there is one, is that of the part of this index
scope_at : {X : Type 0} (inner : X → List Declared) (outer : Scope) (around : List Declared) (xs : List X)
    (ys : List Scope) (k : ℕ) (o : Option (Bor Scope)) →
    Each (λ x s. IsScopeWithin s outer (inner x ++ around)) xs ys → option_copied o ≡ slice_get ys k →
    IsBodyScope outer o (option_map_or inner (slice_get xs k) []) around
scope_at {X} inner outer around xs ys k o are is = by o (slice_get xs k) refl is
  where
    by : (o : Option (Bor Scope)) (p : Option X) → slice_get xs k ≡ p → option_copied o ≡ slice_get ys k →
        IsBodyScope outer o (option_map_or inner p []) around
    by (Some b) (Some x) there at = each_at xs ys k x b.now are there (sym at)
    by (Some b) None past at = absurd (each_back xs ys k b.now are (sym at) past)
    by None (Some x) there at = absurd (each_there xs ys k x are there (sym at))
    by None None past at = refl

pub process_scope_at : (t : TemplateTree) (s : TemplateScopes) (k : ℕ) (body : BodyName) (o : Option (Bor Scope)) →
    body ≡ Process k → AreTemplateScopes t s → option_copied o ≡ slice_get s.processes.items k →
    IsBodyScope s.members o (slots t (body_name body)) (members t)
process_scope_at t s k body o named are is =
    subst (λ b. IsBodyScope s.members o (slots t (body_name b)) (members t)) (sym named)
    (scope_at (λ (p : ProcessTree). locals p.body) s.members (members t) t.processes s.processes.items k o are.processes
    is)

pub task_scope_at : (t : TemplateTree) (s : TemplateScopes) (k : ℕ) (body : BodyName) (o : Option (Bor Scope)) →
    body ≡ Task k → AreTemplateScopes t s → option_copied o ≡ slice_get s.tasks.items k →
    IsBodyScope s.members o (slots t (body_name body)) (members t)
task_scope_at t s k body o named are is =
    subst (λ b. IsBodyScope s.members o (slots t (body_name b)) (members t)) (sym named)
    (scope_at task_slots s.members (members t) t.tasks s.tasks.items k o are.tasks is)

-- What the tables of a place in a text say.
use Rattle.std.specs.Prelude.{◌≡◌, ℕ, Bool, true, false, Option, None, Some, List, [], ◌++◌, slice_get}
use Rattle.std.specs.Borrow.{Bor}
use Rattle.tm_syntax.specs.declared.tree.Spec.{Spec}
use Rattle.tm_syntax.specs.Tree.View.{template_tree}
use Rattle.tm_syntax.specs.Scopes.Context as text
use Rattle.tm_syntax.specs.Scopes.Declared.{Declared, members, slots}
use Rattle.tm_scope.specs.Context.{BodyPlace, body_name}
use Rattle.tm_scope.specs.declared.context.BodyName.{BodyName}
use Rattle.tm_names.specs.ScopeNames.{IsScope, IsScopeWithin}
use Rattle.tm_names.specs.declared.scopes.scope.Scope.{Scope}

-- whether this is a body, or outside of all bodies
abbrev pub is_in_body : text.BodyName → Bool
is_in_body (text.process_body _) = true
is_in_body (text.task_body _) = true
is_in_body text.outside = false

-- the scope of the parameters and locals of a body within the members of its template; where none is, there are none
abbrev pub IsBodyScope : Scope → Option (Bor Scope) → List Declared → List Declared → Type 0
IsBodyScope outer (Some scope) inner around = IsScopeWithin scope.now outer (inner ++ around)
IsBodyScope outer None inner around = inner ≡ []

-- a place is a body of the template of this number
pub record IsSite (spec : Spec) (number : ℕ) (body : BodyName) (outer : Scope) (inner : Option (Bor Scope))
    (at : BodyPlace) : Type 0
  where
    pub same : at.spec ≡ spec
    pub is_there : slice_get spec.templates.items number ≡ Some at.template
    pub within : at.body ≡ body
    pub around : IsScope outer (members (template_tree at.template))
    pub inside : IsBodyScope outer inner (slots (template_tree at.template) (body_name body))
        (members (template_tree at.template))

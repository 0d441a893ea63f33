-- What the scopes of a text say.
use Rattle.std.specs.Prelude.{List, [], ◌∷◌, ◌++◌}
use Rattle.tm_syntax.specs.Tree.{ProcessTree, TaskTree, TemplateTree, SpecTree}
use Rattle.tm_syntax.specs.Scopes.Declared as text
use Rattle.tm_names.specs.ScopeNames.{IsScope, IsScopeWithin}
use Rattle.tm_names.specs.declared.scopes.scope.Scope.{Scope}
use Rattle.tm_names.specs.declared.scopes.text_scopes.TemplateScopes.{TemplateScopes}
use Rattle.tm_names.specs.declared.scopes.text_scopes.TextScopes.{TextScopes}

-- one of these for each of those
pub data Each {X Y : Type 0} (Is : X → Y → Type 0) : List X → List Y → Type 0 where
  none : Each Is [] []
  more : {x : X} {y : Y} {xs : List X} {ys : List Y} → Is x y → Each Is xs ys → Each Is (x ∷ xs) (y ∷ ys)

-- the scope of a process, within that of the members of its template
abbrev pub IsProcessScope : List text.Declared → Scope → ProcessTree → Scope → Type 0
IsProcessScope around outer p b = IsScopeWithin b outer (text.locals p.body ++ around)

-- the scope of a task, likewise
abbrev pub IsTaskScope : List text.Declared → Scope → TaskTree → Scope → Type 0
IsTaskScope around outer k b = IsScopeWithin b outer (text.task_slots k ++ around)

-- the scopes of a template
pub record AreTemplateScopes (t : TemplateTree) (s : TemplateScopes) : Type 0 where
  pub members : IsScope s.members (text.members t)
  pub processes : Each (IsProcessScope (text.members t) s.members) t.processes s.processes.items
  pub tasks : Each (IsTaskScope (text.members t) s.members) t.tasks s.tasks.items

-- the scopes of a text
pub record AreTextScopes (spec : SpecTree) (s : TextScopes) : Type 0 where
  pub names : IsScope s.text (text.text_names spec)
  pub templates : Each AreTemplateScopes spec.templates s.templates.items

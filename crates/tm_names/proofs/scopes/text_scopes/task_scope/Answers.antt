use Rattle.std.proofs.Common.{IfOk, List, ◌++◌, ap, ◌∙◌, subst}
use Rattle.tm_syntax.specs.Scopes.Declared.{Declared}
use Rattle.tm_names.specs.Sorts.{all_declared}
use Rattle.tm_names.specs.ScopeNames.{IsScope, IsScopeWithin}
use Rattle.tm_names.proofs.scopes.text_scopes.task_scope.Goals as goal

pub returns : goal.returns
returns c =
    subst (λ (ds : List Declared). IfOk c.scope_within.result (λ scope. (around : List Declared) →
    IsScope c.args.members.now around → IsScopeWithin scope c.args.members.now (ds ++ around)))
    (ap all_declared c.as_slice.ensures.value ∙ c.in_ok-slots.ensures) c.scope_within.ensures

use Rattle.std.proofs.Common.{IfOk, List, ap, ◌∙◌, subst}
use Rattle.tm_syntax.specs.Scopes.Declared.{Declared}
use Rattle.tm_names.specs.Sorts.{all_declared}
use Rattle.tm_names.specs.ScopeNames.{IsScope}
use Rattle.tm_names.proofs.scopes.text_scopes.text_scope.Goals as goal

pub returns : goal.returns
returns c =
    subst (λ (ds : List Declared). IfOk c.scope_of.result (λ scope. IsScope scope ds))
    (ap all_declared c.as_slice.ensures.value ∙ c.in_ok-declared.ensures) c.scope_of.ensures

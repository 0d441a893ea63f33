use Rattle.std.proofs.Common.{List, [], ◌++◌, subst}
use Rattle.std.proofs.lemmas.List.{append-nil}
use Rattle.std.proofs.lemmas.Result.{IfOk-weaker}
use Rattle.tm_syntax.specs.Scopes.Declared.{Declared}
use Rattle.tm_names.specs.Sorts.{all_declared}
use Rattle.tm_names.specs.ScopeNames.{IsScope, IsScopeWithin}
use Rattle.tm_names.proofs.ScopeSteps.{scope_alone}
use Rattle.tm_names.proofs.scopes.scope.scope_of.Goals as goal

pub returns : goal.returns
returns c =
    let ds : List Declared = all_declared c.args.declared.now in
    IfOk-weaker c.scope_within.result
    (λ scope. (around : List Declared) → IsScope c.empty.result around →
    IsScopeWithin scope c.empty.result (ds ++ around))
    (λ scope. IsScope scope ds)
    (λ scope within. scope_alone scope c.empty.result ds c.empty.ensures.finds
    (subst (λ (all : List Declared). IsScopeWithin scope c.empty.result all) (append-nil ds)
    (within [] c.empty.ensures)))
    c.scope_within.ensures

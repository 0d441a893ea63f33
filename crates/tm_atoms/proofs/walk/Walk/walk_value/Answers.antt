use Rattle.std.proofs.Common.{◌∷◌, [], sym, ap, ◌∙◌}
use Rattle.std.proofs.lemmas.Result.{on_ok_weaker}
use Rattle.tm_syntax.specs.Tree.View.{value_tree}
use Rattle.tm_syntax.specs.Scopes.Parts.{value_calls}
use Rattle.tm_scope.specs.Cells.{scope_of}
use Rattle.tm_atoms.specs.Inner.Walks.{tables_of}
use Rattle.tm_atoms.proofs.WalkSteps.{settles-plain}
use Rattle.tm_atoms.proofs.walk.Walk.walk_value.Goals as goal

pub returns-in-Star-clause-settles : goal.returns-in-Star-clause-settles
returns-in-Star-clause-settles c = λ d over rank ranked s conditions calls.
    settles-plain d rank (tables_of c.args.self.now) (scope_of c.args.scope) s conditions
    (calls ∙ ap (λ v. value_calls (value_tree v)) c.in-Star.is)

pub returns-in-Call-clause-settles : goal.returns-in-Call-clause-settles
returns-in-Call-clause-settles c =
    on_ok_weaker c.walk_call.result (λ h d over rank ranked s conditions calls. h d over rank ranked s conditions
    (calls ∙ ap (λ v. value_calls (value_tree v)) c.in-Call.is ∙ ap (λ names. names ∷ [])
    (sym c.as_slice.ensures.value)))
    c.walk_call.ensures.settles

pub returns-in-Plain-clause-settles : goal.returns-in-Plain-clause-settles
returns-in-Plain-clause-settles c = λ d over rank ranked s conditions calls.
    settles-plain d rank (tables_of c.args.self.now) (scope_of c.args.scope) s conditions
    (calls ∙ ap (λ v. value_calls (value_tree v)) c.in-Plain.is)

use Rattle.std.proofs.Common.{sym, ap, ◌∙◌}
use Rattle.std.specs.Option.{option_and_then, option_copied, option_map}
use Rattle.tm_syntax.specs.Scopes.Context.{variable_of}
use Rattle.tm_syntax.specs.Tree.View.{spec_tree, var_tree}
use Rattle.tm_scope.specs.Context.{body_name, context_of}
use Rattle.tm_scope.specs.Members.{var_at}
use Rattle.tm_scope.proofs.Meanings.{var_at-read, variable_of-numbered}
use Rattle.tm_scope.proofs.scopes.body_scope.BodyScope.variable_of.Goals as goal

pub returns-in_err-number : goal.returns-in_err-number
returns-in_err-number c =
    let at = c.self.inside in
    ap (λ r. option_map var_tree (option_copied r)) c.from_residual.ensures
    ∙ sym (variable_of-numbered at.scopes.now at.number at.template.now c.self.invariant.is_there c.args.path.now
    (body_name at.body)
    ∙ ap (option_and_then (var_at (spec_tree at.scopes.now))) (sym c.var_number.ensures ∙ c.in_err-number.was))
    ∙ ap (λ place. variable_of (context_of place) c.args.path.now) c.self.view_is

pub returns : goal.returns
returns c =
    let at = c.self.inside in
    ap (option_map var_tree) c.var.ensures
    ∙ var_at-read at.scopes.now c.in_ok-number.number
    ∙ sym (variable_of-numbered at.scopes.now at.number at.template.now c.self.invariant.is_there c.args.path.now
    (body_name at.body)
    ∙ ap (option_and_then (var_at (spec_tree at.scopes.now))) (sym c.var_number.ensures ∙ c.in_ok-number.was))
    ∙ ap (λ place. variable_of (context_of place) c.args.path.now) c.self.view_is

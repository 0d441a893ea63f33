use Rattle.std.proofs.Common.{sym, ap, ◌∙◌}
use Rattle.tm_scope.proofs.scopes.scope.Scopes.new.Goals as goal

pub invariant_of-result : goal.invariant_of-result
invariant_of-result c = (
  c.in_ok-constants.ensures ∙ sym c.in_ok-names.ensures,
  c.in_ok-templates.ensures ∙ c.as_slice.ensures.value ∙ ap (λ s. s.templates.items) (sym c.in_ok-names.ensures),
)

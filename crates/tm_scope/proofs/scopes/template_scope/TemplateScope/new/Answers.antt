use Rattle.std.proofs.Common.{sym, ◌∙◌}
use Rattle.tm_scope.proofs.scopes.template_scope.TemplateScope.new.Goals as goal

pub invariant_of-result : goal.invariant_of-result
invariant_of-result c = (
  c.in_ok-members.ensures ∙ sym c.in_ok-neighbors.ensures,
  c.in_ok-bodies.ensures ∙ sym c.in_ok-neighbors.ensures,
)

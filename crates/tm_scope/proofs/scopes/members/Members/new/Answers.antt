use Rattle.std.proofs.Common.{position, ap, ◌∙◌}
use Rattle.tm_syntax.specs.Scopes.Names.{is_spelled}
use Rattle.tm_scope.proofs.scopes.members.Members.new.Goals as goal

pub invariant_of-result : goal.invariant_of-result
invariant_of-result c = record {
  var = λ name. c.in_ok-vars.ensures name ∙ ap (position (λ x. is_spelled name x.name)) c.as_slice.ensures.value;
  task = λ name. c.in_ok-tasks.ensures name ∙ ap (position (λ x. is_spelled name x.name)) c.as_slice-2.ensures.value;
}

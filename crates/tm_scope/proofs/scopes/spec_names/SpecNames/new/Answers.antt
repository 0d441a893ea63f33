use Rattle.std.proofs.Common.{position, ap, ◌∙◌}
use Rattle.tm_syntax.specs.Scopes.Names.{is_spelled}
use Rattle.tm_scope.proofs.scopes.spec_names.SpecNames.new.Goals as goal

pub invariant_of-result : goal.invariant_of-result
invariant_of-result c = record {
  template = λ name. c.in_ok-templates.ensures name
      ∙ ap (position (λ x. is_spelled name x.name)) c.as_slice.ensures.value;
  enum_of = λ name. c.in_ok-enums.ensures name ∙ ap (position (λ x. is_spelled name x.name)) c.as_slice-2.ensures.value;
}

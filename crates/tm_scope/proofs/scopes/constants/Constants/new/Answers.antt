use Rattle.std.proofs.Common.{position, ap, ◌∙◌}
use Rattle.std.specs.List.{list_any}
use Rattle.tm_syntax.specs.Scopes.Names.{is_spelled}
use Rattle.tm_scope.proofs.scopes.constants.Constants.new.Goals as goal

pub invariant_of-result : goal.invariant_of-result
invariant_of-result c = record {
  enum_of = λ name. c.in_ok-enums.ensures name
      ∙ ap (position (λ e. list_any (is_spelled name) e.constants.items)) c.as_slice-2.ensures.value;
  each_enum = c.in_ok-values.ensures ∙ c.as_slice.ensures.value;
}

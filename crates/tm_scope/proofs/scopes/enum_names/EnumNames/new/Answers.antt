use Rattle.std.proofs.Common.{position, ap, ◌∙◌}
use Rattle.tm_syntax.specs.Scopes.Names.{is_spelled}
use Rattle.tm_scope.proofs.scopes.enum_names.EnumNames.new.Goals as goal

pub invariant_of-result : goal.invariant_of-result
invariant_of-result c = λ name. c.in_ok-of.ensures name ∙ ap (position (is_spelled name)) c.as_slice.ensures.value

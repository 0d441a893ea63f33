use Rattle.std.proofs.Common.{nat_eq, position, sym, ap, ◌∙◌}
use Rattle.std.specs.Cmp.Lexicographic.{pointwise}
use Rattle.std.specs.Option.{option_map}
use Rattle.tm_syntax.specs.Design.Cells.{in_state}
use Rattle.tm_scope.specs.VariablePaths.{whole}
use Rattle.tm_scope.proofs.variables.Variables.number.Goals as goal

pub returns : goal.returns
returns c = λ d has.
    ap (option_map in_state)
    (c.copied.ensures ∙ c.get.ensures.value ∙ c.self.invariant (whole c.args.path)
    ∙ ap (position (λ v. pointwise nat_eq (whole c.args.path) v.path)) (c.self.view_is ∙ sym has))

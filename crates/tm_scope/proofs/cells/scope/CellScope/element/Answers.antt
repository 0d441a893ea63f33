use Rattle.std.proofs.Common.{◌∷◌, sym, ap, ◌∙◌}
use Rattle.tm_syntax.specs.Design.Cells.{variable_at}
use Rattle.tm_scope.proofs.VariablePaths.{member_path-append}
use Rattle.tm_scope.proofs.cells.scope.CellScope.element.Goals as goal

pub returns-clause-cell : goal.returns-clause-cell
returns-clause-cell c = λ d has.
    c.variable.ensures.cell d has
    ∙ ap (variable_at d) (sym (member_path-append c.args.base.now c.args.name.now (46 ∷ c.args.digits.now)))

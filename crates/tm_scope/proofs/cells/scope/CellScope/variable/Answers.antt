use Rattle.std.proofs.Common.{refl}
use Rattle.tm_syntax.specs.Design.Cells.{in_state}
use Rattle.tm_scope.proofs.cells.scope.CellScope.variable.Goals as goal

pub returns-clause-is_there : goal.returns-clause-is_there
returns-clause-is_there c = (in_state c.in_ok-number.number, refl)

use Rattle.std.proofs.Common.{take}
use Rattle.std.specs.List.{AllZip}
use Rattle.tm_design.specs.Inner.ParamCells.{IsParamCell}
use Rattle.tm_design.proofs.parameters.parameter_cells.Given as goal

abbrev pub invariant-loop-index : goal.invariant-loop-index
invariant-loop-index l = AllZip (IsParamCell l.scope) (take l.index l.task.params.items) l.cells.items

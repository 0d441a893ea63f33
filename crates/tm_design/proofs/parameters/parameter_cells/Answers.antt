use Rattle.std.proofs.Common.{arith}
use Rattle.tm_design.proofs.ParamLists.{all_params, more_params}
use Rattle.tm_design.proofs.parameters.parameter_cells.Goals as goal

pub loop-index-preserved : goal.loop-index-preserved
loop-index-preserved c =
    more_params c.args.scope.now c.args.task.now.params.items c.loop-index.index c.loop-index.cells.items
    c.push.new.self.items c.parameter_cell.result (omega arith) c.parameter_cell.ensures c.in_ok-push.ensures.items
    c.loop-index.invariant

pub returns : goal.returns
returns c =
    all_params c.args.scope.now c.args.task.now c.loop-index.cells.items c.loop-index.index c.requires (omega arith)
    c.loop-index.invariant

use Rattle.std.proofs.Common.{◌∷◌, [], sym, ap, ◌∙◌, arith}
use Rattle.tm_syntax.specs.declared.tree.Param.{Param}
use Rattle.tm_design.proofs.OperandCells.{at_index, found_cell, step_cell, task_place}
use Rattle.tm_design.proofs.parameters.parameter_cell.Goals as goal

pub returns-then-is_kept : goal.returns-then-is_kept
returns-then-is_kept c = λ q is d has cell found.
    let s = c.args.scope.now in
    let task = c.args.task.now in
    let same = at_index task.params.items c.args.index c.index.result.now q (omega arith) c.index.ensures is in
    found_cell s task (task_place s task c.requires.task) d has c.args.index q c.from_ref-name.result.now
    c.cell.result _ c.unwrap_or.result (sym (c.is_kept.ensures d has) ∙ c.if-is_kept.true) is
    (c.from_ref-name.ensures.value ∙ ap (λ (x : Param). x.name ∷ []) same) (c.cell.ensures.cell d has)
    c.unwrap_or.ensures cell found

pub returns-else-is_kept : goal.returns-else-is_kept
returns-else-is_kept c = λ q is d has cell found.
    let s = c.args.scope.now in
    let task = c.args.task.now in
    step_cell s task (task_place s task c.requires.task) d has c.args.index q cell
    (sym (c.is_kept.ensures d has) ∙ c.if-is_kept.false) is found

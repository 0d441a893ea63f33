use Rattle.std.proofs.Common.{List, length, sym, ap, ◌∙◌, subst}
use Rattle.tm_syntax.specs.declared.tree.Param.{Param}
use Rattle.tm_syntax.specs.Design.View.{design_tree}
use Rattle.tm_scope.specs.Cells.{ScopedCells}
use Rattle.tm_scope.specs.declared.cells.site_body.CellNumber.{CellNumber}
use Rattle.tm_design.specs.Parameters.{AreCalledCells, task_at}
use Rattle.tm_flat_exprs.specs.Tables.{cells_of}
use Rattle.tm_flat_moves.specs.Inner.Reading.{AreParameters}
use Rattle.tm_flat_moves.proofs.Parameters.{task_parameters}
use Rattle.tm_flat_moves.proofs.tasks.Tasks.read_arguments.Goals as goal

pub parameter_cells-requires : goal.parameter_cells-requires
parameter_cells-requires c = ap task_at c.requires.scope ∙ c.requires.readable.stands

pub read_all-requires-clause-parameters : goal.read_all-requires-clause-parameters
read_all-requires-clause-parameters c =
    let x = cells_of c.args.self.now.design.now in
    let d = design_tree c.args.self.now.design.now in
    let at = c.args.called.now.at in
    let task = c.args.called.now.task.now in
    let cells = subst (λ (s : ScopedCells). AreCalledCells s (length task.params.items) c.in_ok-cells.cells.items)
    c.requires.scope c.in_ok-cells.ensures in
    let are : AreParameters x d at c.in_ok-cells.cells.items task.params.items =
    task_parameters x d at task c.requires.readable c.in_ok-cells.cells.items cells in
    subst (λ (ps : List Param). AreParameters x d at c.as_slice.result.now ps) (sym c.as_slice-params.ensures.value)
    (subst (λ (ns : List CellNumber). AreParameters x d at ns task.params.items) (sym c.as_slice.ensures.value) are)

pub returns-clause-reads : goal.returns-clause-reads
returns-clause-reads c = c.in_ok-given.ensures

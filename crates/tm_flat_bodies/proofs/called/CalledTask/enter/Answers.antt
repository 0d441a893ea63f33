use Rattle.std.proofs.Common.{◌≡◌, Some, length, sym, ap, ◌∙◌, subst}
use Rattle.tm_syntax.specs.declared.tree.TaskDef.{TaskDef}
use Rattle.tm_syntax.specs.Tree.View.{expr_trees}
use Rattle.tm_scope.specs.Cells.{CellTables, ScopedCells}
use Rattle.tm_scope.specs.declared.cells.site_body.SiteBody.{SiteBody}
use Rattle.tm_design.specs.Parameters.{AreCalledCells, task_at}
use Rattle.tm_design.proofs.Contexts.{some_cells, some_design}
use Rattle.tm_flat_bodies.specs.Asked.{AreArguments}
use Rattle.tm_flat_bodies.specs.Inner.Passing.{AsksAll, PutsAll}
use Rattle.tm_flat_bodies.proofs.Passed.{as_many_terms, enters}
use Rattle.tm_flat_bodies.proofs.called.CalledTask.enter.Goals as goal

pub valued_arguments-requires-clause-typed : goal.valued_arguments-requires-clause-typed
valued_arguments-requires-clause-typed c =
    subst (λ ps. AreArguments c.args.outer.now ps (expr_trees c.args.args.now)) (sym c.as_slice.ensures.value)
    c.requires.typed

pub parameter_cells-requires : goal.parameter_cells-requires
parameter_cells-requires c =
    let inner = c.args.self.now.stand.reader in
    ap task_at c.scope.ensures
    ∙ ap (λ (x : CellTables). task_at (record { tables = x; at = inner.at })) c.requires.tables
    ∙ c.requires.callee.1.task

pub put_all-requires : goal.put_all-requires
put_all-requires c =
    let s = c.args.outer.now in
    let inner = c.args.self.now.stand.reader in
    let task : TaskDef = c.args.self.now.task.now in
    let args = expr_trees c.args.args.now in
    let there : task_at inner ≡ Some task =
    ap (λ (x : CellTables). task_at (record { tables = x; at = inner.at })) c.requires.tables
    ∙ c.requires.callee.1.task in
    let asks = subst (λ ps. AsksAll s ps args c.args.course.now c.valued_arguments.new.course c.args.flow
    c.in_ok-valued.valued) c.as_slice.ensures.value c.in_ok-valued.ensures in
    let cells = subst (λ (v : ScopedCells). AreCalledCells v (length task.params.items) c.in_ok-cells.cells.items)
    c.scope.ensures c.in_ok-cells.ensures in
    let d = some_design s.tables in
    let runs = c.requires.callee.1.runs d (some_cells s.tables) in
    ap length c.as_slice-2.ensures.value
    ∙ as_many_terms s inner task args c.args.flow.memory c.valued_arguments.new.course.terms
    c.in_ok-valued.valued.values.items c.in_ok-cells.cells.items c.requires.tables there c.requires.typed asks.values
    cells d (some_cells s.tables) (c.requires.parameters d (some_cells s.tables)) runs.called runs.by
    ∙ sym (ap length c.as_slice-3.ensures.value)

pub returns : goal.returns
returns c =
    let s = c.args.outer.now in
    let inner = c.args.self.now.stand.reader in
    let task : TaskDef = c.args.self.now.task.now in
    let args = expr_trees c.args.args.now in
    let there : task_at inner ≡ Some task =
    ap (λ (x : CellTables). task_at (record { tables = x; at = inner.at })) c.requires.tables
    ∙ c.requires.callee.1.task in
    let asks = subst (λ ps. AsksAll s ps args c.args.course.now c.valued_arguments.new.course c.args.flow
    c.in_ok-valued.valued) c.as_slice.ensures.value c.in_ok-valued.ensures in
    let cells = subst (λ (v : ScopedCells). AreCalledCells v (length task.params.items) c.in_ok-cells.cells.items)
    c.scope.ensures c.in_ok-cells.ensures in
    let puts = subst (λ (ids : _). PutsAll inner.at c.in_ok-cells.cells.items ids c.in_ok-valued.valued.flow
    c.in_ok-entered.entered) c.as_slice-3.ensures.value
    (subst (λ (ns : _). PutsAll inner.at ns c.as_slice-3.result.now c.in_ok-valued.valued.flow c.in_ok-entered.entered)
    c.as_slice-2.ensures.value
    (subst (λ (at : SiteBody). PutsAll at c.as_slice-2.result.now c.as_slice-3.result.now c.in_ok-valued.valued.flow
    c.in_ok-entered.entered) c.at.ensures c.in_ok-entered.ensures)) in
    enters s inner task args c.args.course.now c.valued_arguments.new.course c.args.flow c.in_ok-entered.entered
    c.in_ok-valued.valued c.in_ok-cells.cells.items c.requires.tables there c.requires.typed c.requires.parameters
    c.requires.apart asks cells puts

use Rattle.std.proofs.Common.{◌≡◌, Some, sym, ap, ◌∙◌, subst}
use Rattle.std.specs.Option.{option_and_then}
use Rattle.tm_syntax.specs.Design.Cells.{Cell}
use Rattle.tm_syntax.specs.Design.Scope.{site}
use Rattle.tm_scope.specs.Cells.{IsCellNumber, cell_at}
use Rattle.tm_scope.proofs.OwnCells.{cell-own}
use Rattle.tm_scope.proofs.cells.scope.CellScope.cell.Goals as goal

pub returns-in-Some-clause-cell : goal.returns-in-Some-clause-cell
returns-in-Some-clause-cell c = λ d has.
    let x = c.args.self.now.tables in
    let at = c.args.self.now.at in
    let there : (k : Cell) × (cell_at x at c.in-Some.own ≡ Some k) =
    subst (IsCellNumber x at) c.in-Some.is c.own_cell.ensures.is_there in
    there.1
    ∙ sym (cell-own d at c.args.path.now c.args.index (site d at.instance) there.0
    (sym (c.own_cell.ensures.cell d has) ∙ ap (option_and_then (cell_at x at)) c.in-Some.is ∙ there.1))

use Rattle.std.proofs.Common.{◌≡◌, subst}
use Rattle.std.specs.Option.{option_and_then}
use Rattle.tm_syntax.specs.Design.{DesignTree}
use Rattle.tm_syntax.specs.Design.Cells.{cell}
use Rattle.tm_scope.specs.Cells.{HasCells, IsCellNumber, ScopedCells, cell_at, scope_of}
use Rattle.tm_plain_exprs.proofs.reader.Reader.cell.Goals as goal

pub returns-clause-is_there : goal.returns-clause-is_there
returns-clause-is_there c =
    subst (λ (v : ScopedCells). IsCellNumber v.tables v.at c.cell.result) c.self.view_is c.cell.ensures.is_there

pub returns-clause-cell : goal.returns-clause-cell
returns-clause-cell c =
    subst (λ (v : ScopedCells). (d : DesignTree) → HasCells v.tables d →
    option_and_then (cell_at v.tables v.at) c.cell.result ≡ cell d (scope_of v.at) c.args.path.now c.args.index)
    c.self.view_is c.cell.ensures.cell

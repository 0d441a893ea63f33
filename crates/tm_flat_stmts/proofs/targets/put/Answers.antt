use Rattle.std.proofs.Common.{None, Some, sym, ap, ◌∙◌, subst}
use Rattle.std.specs.Option.{option_and_then}
use Rattle.tm_scope.specs.Cells.{IsCellNumber, ScopedCells, cell_at}
use Rattle.tm_flat_exprs.proofs.Reading.{Tells}
use Rattle.tm_flat_stmts.proofs.Assigning.{put_nowhere, put_there}
use Rattle.tm_flat_stmts.proofs.targets.put.Goals as goal

pub returns-in_ok-goes-in-Some : goal.returns-in_ok-goes-in-Some
returns-in_ok-goes-in-Some c =
    let s = c.scope.result.now in
    put_there c.args.reader.now c.args.path.now c.args.index c.args.id c.args.flow c.at.result c.in-Some.cell
    c.in_ok-goes-in-Some.goes c.at.ensures
    (subst (λ (v : ScopedCells). IsCellNumber v.tables v.at (Some c.in-Some.cell)) c.scope.ensures
    (subst (IsCellNumber s.tables s.at) c.in-Some.is c.cell.ensures.is_there))
    (subst (λ (v : ScopedCells). Tells v c.args.path.now c.args.index (Some c.in-Some.cell)) c.scope.ensures
    (λ d has. ap (option_and_then (cell_at s.tables s.at)) (sym c.in-Some.is) ∙ c.cell.ensures.cell d has))
    c.in_ok-goes-in-Some.ensures

pub returns-in-None : goal.returns-in-None
returns-in-None c =
    let s = c.scope.result.now in
    put_nowhere c.args.reader.now c.args.path.now c.args.index c.args.id c.args.flow
    (subst (λ (v : ScopedCells). Tells v c.args.path.now c.args.index None) c.scope.ensures
    (λ d has. ap (option_and_then (cell_at s.tables s.at)) (sym c.in-None.is) ∙ c.cell.ensures.cell d has))

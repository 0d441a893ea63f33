use Rattle.std.proofs.Common.{◌≡◌, Some, List, map, sym, ap, ◌∙◌, subst}
use Rattle.tm_syntax.specs.Design.View.{design_tree}
use Rattle.tm_scope.specs.Cells.{HasCells, ScopedCells, cell_at}
use Rattle.tm_scope.specs.declared.cells.site_body.CellNumber.{CellNumber}
use Rattle.tm_plain_bodies.proofs.Found.{own_cells}
use Rattle.tm_plain.proofs.DriverTasks.{cells_are}
use Rattle.tm_plain.proofs.machine.permits.suits.Goals as goal

pub returns : goal.returns
returns c = λ d number of.
    let frame = c.args.called.now.frame in
    let task = c.args.called.now.task.now in
    let tables = ap (λ (s : ScopedCells). s.tables) of.frame.reader in
    let are : map (cell_at frame.reader.tables frame.reader.at) c.as_slice.result.now ≡ map Some of.called.params =
    ap (λ (numbers : List CellNumber). map (cell_at frame.reader.tables frame.reader.at) numbers)
    c.as_slice.ensures.value
    ∙ cells_are d number frame task of c.in_ok-cells.cells.items c.in_ok-cells.ensures in
    c.arguments_fit.ensures (design_tree d) of.called.params
    (subst (λ x. HasCells x (design_tree d)) (sym tables) (own_cells d)) are of.sized

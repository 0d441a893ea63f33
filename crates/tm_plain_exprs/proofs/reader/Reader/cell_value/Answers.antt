use Rattle.std.proofs.Common.{sym, ap, ◌∙◌, subst}
use Rattle.std.specs.Option.{option_and_then}
use Rattle.tm_scope.specs.Cells.{IsCellNumber, cell_at}
use Rattle.tm_plain_exprs.proofs.Reading.{value_in_cell, no_cell}
use Rattle.tm_plain_exprs.proofs.reader.Reader.cell_value.Goals as goal

pub returns-in-Some : goal.returns-in-Some
returns-in-Some c =
    let s = c.self.inside.scope in
    value_in_cell s c.args.self.now c.self.view_is c.args.store.now c.args.path.now c.args.index c.self.inside.at
    c.in-Some.cell c.read.result c.self.invariant.0
    (subst (IsCellNumber s.tables s.at) c.in-Some.is c.cell.ensures.is_there)
    (λ d has. ap (option_and_then (cell_at s.tables s.at)) (sym c.in-Some.is) ∙ c.cell.ensures.cell d has)
    c.read.ensures

pub returns-in-None : goal.returns-in-None
returns-in-None c =
    let s = c.self.inside.scope in
    no_cell s c.args.self.now c.self.view_is c.args.store.now c.args.path.now c.args.index
    (λ d has. ap (option_and_then (cell_at s.tables s.at)) (sym c.in-None.is) ∙ c.cell.ensures.cell d has)

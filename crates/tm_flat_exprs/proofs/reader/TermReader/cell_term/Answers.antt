use Rattle.std.proofs.Common.{None, Some, sym, ap, ◌∙◌, subst}
use Rattle.std.specs.Option.{option_and_then}
use Rattle.tm_scope.specs.Cells.{IsCellNumber, ScopedCells, cell_at}
use Rattle.tm_scope.specs.Types.{ty_of}
use Rattle.tm_flat_exprs.proofs.Reading.{Tells, cell_found, no_cell_found, number_type}
use Rattle.tm_flat_exprs.proofs.reader.TermReader.cell_term.Goals as goal

pub term_in-requires-clause-typed : goal.term_in-requires-clause-typed
term_in-requires-clause-typed c =
    let s = c.self.inside.scope in
    number_type c.args.self.now c.args.memory.now (ty_of c.args.ty) c.args.path.now c.args.index c.in-Some.cell
    c.requires.typed
    (subst (λ (v : ScopedCells). IsCellNumber v.tables v.at (Some c.in-Some.cell)) c.self.view_is
    (subst (IsCellNumber s.tables s.at) c.in-Some.is c.cell.ensures.is_there))
    (subst (λ (v : ScopedCells). Tells v c.args.path.now c.args.index (Some c.in-Some.cell)) c.self.view_is
    (λ d has. ap (option_and_then (cell_at s.tables s.at)) (sym c.in-Some.is) ∙ c.cell.ensures.cell d has))

pub returns-in_ok-id-in-Some : goal.returns-in_ok-id-in-Some
returns-in_ok-id-in-Some c =
    let s = c.self.inside.scope in
    cell_found c.args.self.now c.args.memory.now (ty_of c.args.ty) c.args.path.now c.args.index c.in-Some.cell
    c.args.terms.now c.term_in.new.terms _
    (subst (λ (v : ScopedCells). IsCellNumber v.tables v.at (Some c.in-Some.cell)) c.self.view_is
    (subst (IsCellNumber s.tables s.at) c.in-Some.is c.cell.ensures.is_there))
    (subst (λ (v : ScopedCells). Tells v c.args.path.now c.args.index (Some c.in-Some.cell)) c.self.view_is
    (λ d has. ap (option_and_then (cell_at s.tables s.at)) (sym c.in-Some.is) ∙ c.cell.ensures.cell d has))
    c.in_ok-id-in-Some.ensures

pub returns-in-None : goal.returns-in-None
returns-in-None c =
    let s = c.self.inside.scope in
    no_cell_found c.args.self.now c.args.memory.now (ty_of c.args.ty) c.args.path.now c.args.index c.args.terms.now
    c.requires.ready
    (subst (λ (v : ScopedCells). Tells v c.args.path.now c.args.index None) c.self.view_is
    (λ d has. ap (option_and_then (cell_at s.tables s.at)) (sym c.in-None.is) ∙ c.cell.ensures.cell d has))

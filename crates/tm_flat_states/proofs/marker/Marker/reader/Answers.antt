use Rattle.std.proofs.Common.{ap, sym, ◌∙◌}
use Rattle.tm_scope.specs.Cells.{ScopedCells}
use Rattle.tm_scope.specs.declared.context.BodyName.TheVariants.{Outside}
use Rattle.tm_flat_states.proofs.StatedTerms.{no_scope, scope_found}
use Rattle.tm_flat_states.proofs.marker.Marker.reader.Goals as goal

pub returns-in-None-clause-none : goal.returns-in-None-clause-none
returns-in-None-clause-none c =
    let m = c.args.self.now in
    no_scope m.design.now m.cells.now m.same_cells (record { instance = c.args.instance; body = Outside })
    c.scope.result
    c.scope.ensures c.in-None.is

pub new-requires-clause-place : goal.new-requires-clause-place
new-requires-clause-place c =
    let m = c.args.self.now in
    ap (λ (s : ScopedCells). s.at)
    (scope_found m.design.now m.cells.now m.same_cells (record { instance = c.args.instance; body = Outside })
    c.scope.result c.scope.ensures c.in-Some.scope c.in-Some.is)

pub new-requires-clause-text : goal.new-requires-clause-text
new-requires-clause-text c =
    let m = c.args.self.now in
    m.same_text
    ∙ sym (ap (λ (s : ScopedCells). s.tables.spec)
    (scope_found m.design.now m.cells.now m.same_cells (record { instance = c.args.instance; body = Outside })
    c.scope.result c.scope.ensures c.in-Some.scope c.in-Some.is))

pub returns-in-Some-clause-found : goal.returns-in-Some-clause-found
returns-in-Some-clause-found c =
    let m = c.args.self.now in
    c.new.ensures
    ∙ scope_found m.design.now m.cells.now m.same_cells (record { instance = c.args.instance; body = Outside })
    c.scope.result c.scope.ensures c.in-Some.scope c.in-Some.is

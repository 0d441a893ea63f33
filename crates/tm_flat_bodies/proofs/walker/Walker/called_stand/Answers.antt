use Rattle.std.proofs.Common.{Some, sym, ap, ◌∙◌}
use Rattle.tm_syntax.specs.Design.Scope.{site}
use Rattle.tm_scope.specs.Cells.{ScopedCells}
use Rattle.tm_design.proofs.Contexts.{some_cells, some_design}
use Rattle.tm_design.proofs.Found.{body_found, no_source}
use Rattle.tm_flat_bodies.proofs.Leaving.{has_home}
use Rattle.tm_flat_bodies.proofs.walker.Walker.called_stand.Goals as goal

pub unreachable-requires : goal.unreachable-requires
unreachable-requires c =
    let x = c.args.self.now.cells.now in
    let at = c.args.home.at in
    has_home x c.requires.from at c.requires.names c.requires.task c.requires.is
    (no_source _ (site (some_design x) at.instance) c.scope.result (c.scope.ensures (some_design x) (some_cells x))
    c.in-None.is)

pub new-requires-clause-place : goal.new-requires-clause-place
new-requires-clause-place c =
    let x = c.args.self.now.cells.now in
    let at = c.args.home.at in
    ap (λ (s : ScopedCells). s.at)
    (body_found (site (some_design x) at.instance) (record { tables = x; at = at }) c.in-Some.scope c.scope.result
    (c.scope.ensures (some_design x) (some_cells x)) c.in-Some.is)

pub new-requires-clause-text : goal.new-requires-clause-text
new-requires-clause-text c =
    let x = c.args.self.now.cells.now in
    let at = c.args.home.at in
    c.args.self.now.same_text
    ∙ sym (ap (λ (s : ScopedCells). s.tables.spec)
    (body_found (site (some_design x) at.instance) (record { tables = x; at = at }) c.in-Some.scope c.scope.result
    (c.scope.ensures (some_design x) (some_cells x)) c.in-Some.is))

pub returns : goal.returns
returns c =
    let x = c.args.self.now.cells.now in
    let at = c.args.home.at in
    ap (λ (s : ScopedCells). Some (record { reader = s; depth = c.args.home.depth; trail = c.args.home.trail }))
    (c.new.ensures
    ∙ body_found (site (some_design x) at.instance) (record { tables = x; at = at }) c.in-Some.scope c.scope.result
    (c.scope.ensures (some_design x) (some_cells x)) c.in-Some.is)

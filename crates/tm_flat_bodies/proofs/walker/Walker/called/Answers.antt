use Rattle.std.proofs.Common.{None, refl, sym, ap, ◌∙◌, subst, arith}
use Rattle.tm_syntax.specs.Design.Cells.{called}
use Rattle.tm_syntax.specs.Design.Scope.{site}
use Rattle.tm_scope.specs.Cells.{ScopedCells, scope_of}
use Rattle.tm_scope.specs.declared.cells.site_body.SiteBody.{SiteBody}
use Rattle.tm_design.proofs.Contexts.{some_cells, some_design}
use Rattle.tm_design.specs.Callees.{IsCallee}
use Rattle.tm_flat_bodies.specs.Tables.{known_by}
use Rattle.tm_design.proofs.Found.{body_found, no_source}
use Rattle.tm_flat_bodies.proofs.Leaving.{calls_something, has_home, is_called, is_deeper}
use Rattle.tm_flat_bodies.proofs.Standing.{cells_here}
use Rattle.tm_flat_bodies.proofs.walker.Walker.called.Goals as goal

pub unreachable-requires : goal.unreachable-requires
unreachable-requires c =
    let w = known_by c.args.self.now in
    let f = c.args.stand.now in
    calls_something f.reader.tables f.reader.at c.requires.at c.args.path.now c.requires.task c.requires.is
    (λ d has. ap (λ (at : SiteBody). called d (scope_of at) c.args.path.now) (sym c.at.ensures)
    ∙ c.in_default.ensures.none d (cells_here w f c.requires.stand d has))

pub unreachable-requires-in_default-scope : goal.unreachable-requires-in_default-scope
unreachable-requires-in_default-scope c =
    let x = c.args.self.now.cells.now in
    let at = c.in-Some.callee.at in
    has_home x c.at.result at c.args.path.now c.in-Some.callee.task.now c.in-Some.ensures.found
    (no_source _ (site (some_design x) at.instance) None
    (c.in_default-scope.ensures (some_design x) (some_cells x)) refl)

pub new-reader-requires-clause-place : goal.new-reader-requires-clause-place
new-reader-requires-clause-place c =
    let x = c.args.self.now.cells.now in
    let at = c.in-Some.callee.at in
    ap (λ (s : ScopedCells). s.at)
    (body_found (site (some_design x) at.instance) (record { tables = x; at = at }) c.in-Some-scope.scope c.scope.result
    (c.scope.ensures (some_design x) (some_cells x)) c.in-Some-scope.is)

pub new-reader-requires-clause-text : goal.new-reader-requires-clause-text
new-reader-requires-clause-text c =
    let x = c.args.self.now.cells.now in
    let at = c.in-Some.callee.at in
    c.args.self.now.same_text
    ∙ sym (ap (λ (s : ScopedCells). s.tables.spec)
    (body_found (site (some_design x) at.instance) (record { tables = x; at = at }) c.in-Some-scope.scope c.scope.result
    (c.scope.ensures (some_design x) (some_cells x)) c.in-Some-scope.is))

pub overflow_sub-result : goal.overflow_sub-result
overflow_sub-result c =
    let more = is_deeper (known_by c.args.self.now) c.args.stand.now c.args.path.now c.requires.stand.walkable
    c.requires in
    omega (arith, more)

pub returns : goal.returns
returns c =
    let w = known_by c.args.self.now in
    let f = c.args.stand.now in
    let x = c.args.self.now.cells.now in
    let at = c.in-Some.callee.at in
    let same = c.new-reader.ensures
    ∙ body_found (site (some_design x) at.instance) (record { tables = x; at = at }) c.in-Some-scope.scope
    c.scope.result (c.scope.ensures (some_design x) (some_cells x)) c.in-Some-scope.is in
    is_called w f c.args.path.now c.requires.stand.walkable c.requires _
    (subst (λ (to : SiteBody). IsCallee x f.reader.at c.args.path.now to c.in-Some.callee.task.now)
    (sym (ap (λ (s : ScopedCells). s.at) same))
    (subst (λ (from : SiteBody). IsCallee x from c.args.path.now at c.in-Some.callee.task.now) c.at.ensures
    c.in-Some.ensures.found))
    (ap (λ (s : ScopedCells). s.tables) same) refl c.trail_behind.ensures

use Rattle.std.proofs.Common.{◌≡◌, Some, sym, ap, ◌∙◌, subst}
use Rattle.std.specs.Option.{option_map}
use Rattle.tm_syntax.specs.Design.View.{design_tree}
use Rattle.tm_syntax.specs.Design.Scope.{site}
use Rattle.tm_scope.specs.Cells.{ScopedCells}
use Rattle.tm_plain_bodies.specs.Tables.{body_of}
use Rattle.tm_plain_bodies.proofs.Readers.{found_bodies, found_body}
use Rattle.tm_plain_bodies.proofs.runner.Runner.reader.Goals as goal

pub returns-in_err-scope : goal.returns-in_err-scope
returns-in_err-scope c =
    subst (λ d. c.from_residual.result ≡ option_map (λ _. body_of d c.args.at)
    (site (design_tree d) c.args.at.instance)) c.self.view_is
    (c.from_residual.ensures ∙ sym c.in_err-scope.was
    ∙ found_bodies c.self.inside.design.now c.self.inside.cells c.self.invariant.1 c.args.at c.scope.result
    c.scope.ensures)

pub new-requires-clause-place : goal.new-requires-clause-place
new-requires-clause-place c =
    ap (λ (s : ScopedCells). s.at)
    (found_body c.self.inside.design.now c.self.inside.cells c.self.invariant.1 c.args.at c.scope.result
    c.scope.ensures c.in_ok-scope.scope c.in_ok-scope.was)

pub new-requires-clause-text : goal.new-requires-clause-text
new-requires-clause-text c =
    c.self.invariant.0
    ∙ sym (ap (λ (s : ScopedCells). s.tables.spec)
    (found_body c.self.inside.design.now c.self.inside.cells c.self.invariant.1 c.args.at c.scope.result
    c.scope.ensures c.in_ok-scope.scope c.in_ok-scope.was))

pub returns : goal.returns
returns c =
    subst (λ d. Some c.new.result ≡ option_map (λ _. body_of d c.args.at)
    (site (design_tree d) c.args.at.instance)) c.self.view_is
    (ap Some c.new.ensures ∙ sym c.in_ok-scope.was
    ∙ found_bodies c.self.inside.design.now c.self.inside.cells c.self.invariant.1 c.args.at c.scope.result
    c.scope.ensures)

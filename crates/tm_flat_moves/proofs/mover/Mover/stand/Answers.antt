use Rattle.std.proofs.Common.{ap, refl, sym, ◌∙◌}
use Rattle.tm_scope.specs.Cells.{ScopedCells}
use Rattle.tm_flat_moves.proofs.Placed.{no_scope, scope_found}
use Rattle.tm_flat_moves.proofs.mover.Mover.stand.Goals as goal

pub returns-in-None-clause-none : goal.returns-in-None-clause-none
returns-in-None-clause-none c = no_scope c.args.self.now c.args.at c.scope.result c.scope.ensures c.in-None.is

pub new-reader-requires-clause-place : goal.new-reader-requires-clause-place
new-reader-requires-clause-place c =
    ap (λ (s : ScopedCells). s.at)
    (scope_found c.args.self.now c.args.at c.scope.result c.scope.ensures c.in-Some.scope c.in-Some.is)

pub new-reader-requires-clause-text : goal.new-reader-requires-clause-text
new-reader-requires-clause-text c =
    c.args.self.now.same_text
    ∙ sym (ap (λ (s : ScopedCells). s.tables.spec)
    (scope_found c.args.self.now c.args.at c.scope.result c.scope.ensures c.in-Some.scope c.in-Some.is))

pub returns-in-Some-clause-found : goal.returns-in-Some-clause-found
returns-in-Some-clause-found c = record {
  reader = c.new-reader.ensures
      ∙ scope_found c.args.self.now c.args.at c.scope.result c.scope.ensures c.in-Some.scope c.in-Some.is;
  depth = refl;
  reached = refl;
}

use Rattle.std.proofs.Common.{◌∷◌, length, drop, nat_eq, sym, ◌∙◌}
use Rattle.std.specs.Prelude.{◌&&◌}
use Rattle.std.specs.Cmp.Lexicographic.{pointwise}
use Rattle.tm_scope.proofs.VariablePaths.{begins}
use Rattle.tm_scope.proofs.variables.path.behind.Goals as goal

pub returns-in-Some : goal.returns-in-Some
returns-in-Some c = λ tail.
    begins c.args.name.now (46 ∷ tail) c.args.path.now
    ∙ (λ i. c.in-Some.ensures.cases.0 i && pointwise nat_eq (46 ∷ tail) (sym c.in-Some.ensures.cases.1 i))
    ∙ c.behind_dot.ensures tail

pub returns-in-None : goal.returns-in-None
returns-in-None c = λ tail.
    begins c.args.name.now (46 ∷ tail) c.args.path.now
    ∙ (λ i. c.in-None.ensures.cases i && pointwise nat_eq (46 ∷ tail) (drop (length c.args.name.now) c.args.path.now))

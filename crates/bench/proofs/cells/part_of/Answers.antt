use Rattle.std.proofs.Math.Logic.{∥∥₁_elim}
use Rattle.std.proofs.Props.{props}
use Rattle.std.proofs.lemmas.Result.{IfOk-weaker}
use Rattle.bench.proofs.cells.part_of.Goals as goal

pub returns-in-Lower-clause-known : goal.returns-in-Lower-clause-known
returns-in-Lower-clause-known c =
    IfOk-weaker c.lower.result _ _
    (λ id told. ∥∥₁_elim c.requires.pool (hlevel props) (λ x. (told x.0 x.1).known)) c.lower.ensures.part

pub returns-in-Upper-clause-known : goal.returns-in-Upper-clause-known
returns-in-Upper-clause-known c =
    IfOk-weaker c.upper.result _ _
    (λ id told. ∥∥₁_elim c.requires.pool (hlevel props) (λ x. (told x.0 x.1).known)) c.upper.ensures.part

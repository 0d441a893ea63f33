use Rattle.std.proofs.Math.Logic.{∥∥₁_elim}
use Rattle.std.proofs.lemmas.Result.{IfOk-weaker}
use Rattle.tm_solve_exact.proofs.Answering.{either_told}
use Rattle.tm_solve_exact.proofs.Truncated.{follows_any, is_prop, of_grown, ok_prop}
use Rattle.tm_solve_exact.proofs.Whole.{reduced_of}
use Rattle.tm_solve_exact.proofs.sets.either.Goals as goal

pub returns-clause-value : goal.returns-clause-value
returns-clause-value c =
    ∥∥₁_elim c.requires.of (ok_prop c.or-answer.result _ (λ id. is_prop c.args.game.now c.or-answer.new.self _ id))
    (λ x.
    IfOk-weaker c.or-answer.result _ _
    (λ id function.
    either_told x.0 c.args.game.now c.or-answer.new.self x.1 c.or-answer.ensures.grows c.args.a c.args.b
    c.requires.a c.requires.b id function) c.or-answer.ensures.answer)

pub returns-clause-follows : goal.returns-clause-follows
returns-clause-follows c = follows_any c.args.game.now c.or-answer.new.self c.requires.of c.or-answer.ensures.grows
    (reduced_of c.or-answer.new.self c.manager.result.now c.manager.ensures c.store-store.ensures.manager)

pub returns-clause-of : goal.returns-clause-of
returns-clause-of c = of_grown c.args.game.now c.or-answer.new.self c.requires.of c.or-answer.ensures.grows

use Rattle.std.proofs.Math.Logic.{∥∥₁_elim}
use Rattle.std.proofs.lemmas.Result.{IfOk-weaker}
use Rattle.tm_solve_exact.proofs.Answering.{stay_told}
use Rattle.tm_solve_exact.proofs.Truncated.{follows_any, is_prop, of_grown, ok_prop}
use Rattle.tm_solve_exact.proofs.Whole.{reduced_of}
use Rattle.tm_solve_exact.proofs.sets.stay.Goals as goal

pub returns-clause-value : goal.returns-clause-value
returns-clause-value c =
    ∥∥₁_elim c.requires.of (ok_prop c.cpre-answer.result _ (λ id. is_prop c.args.game.now c.cpre-answer.new.self _ id))
    (λ x.
    IfOk-weaker c.cpre-answer.result _ _
    (λ id answer.
    stay_told x.0 c.args.game.now c.cpre-answer.new.self x.1 c.cpre-answer.ensures.grows c.args.set c.requires.set id
    (answer x.0 x.1.ordered.of)) c.cpre-answer.ensures.answer)

pub returns-clause-follows : goal.returns-clause-follows
returns-clause-follows c = follows_any c.args.game.now c.cpre-answer.new.self c.requires.of c.cpre-answer.ensures.grows
    (reduced_of c.cpre-answer.new.self c.manager.result.now c.manager.ensures c.store-store.ensures.manager)

pub returns-clause-of : goal.returns-clause-of
returns-clause-of c = of_grown c.args.game.now c.cpre-answer.new.self c.requires.of c.cpre-answer.ensures.grows

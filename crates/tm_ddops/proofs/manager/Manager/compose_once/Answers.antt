use Rattle.std.proofs.lemmas.Result.{IfOk-weaker}
use Rattle.tm_ddops.proofs.manager.Manager.compose_once.Goals as goal

pub returns-clause-answer : goal.returns-clause-answer
returns-clause-answer c = IfOk-weaker c.composed.result _ _ (λ id r. r.function) c.composed.ensures.answer

use Rattle.std.proofs.lemmas.Result.{IfOk-weaker}
use Rattle.tm_reorder.proofs.ClampedBits.{tightened_is}
use Rattle.tm_reorder.proofs.clamping.tightened.Goals as goal

pub returns-then-one-clause-answer : goal.returns-then-one-clause-answer
returns-then-one-clause-answer c =
    IfOk-weaker c.ite.result _ _
    (λ id is. tightened_is c.args.dd.now.table c.ite.new.self.table c.args.one c.args.tight c.args.bit id
    c.ite.ensures.grows.extends c.requires.tight c.requires.bit c.if-one.true is)
    c.ite.ensures.answer

use Rattle.std.proofs.lemmas.Result.{IfOk-weaker}
use Rattle.tm_reorder.proofs.ClampedBits.{clamped_is}
use Rattle.tm_reorder.proofs.clamping.clamped.Goals as goal

pub returns-else-one-clause-answer : goal.returns-else-one-clause-answer
returns-else-one-clause-answer c =
    IfOk-weaker c.ite.result _ _
    (λ id is. clamped_is c.args.dd.now.table c.ite.new.self.table c.args.one c.args.tight c.args.bit id
    c.ite.ensures.grows.extends c.requires.tight c.requires.bit c.if-one.false is)
    c.ite.ensures.answer

use Rattle.std.proofs.lemmas.Result.{IfOk-weaker}
use Rattle.tm_envcheck.proofs.LevelParts.{has_new_tried}
use Rattle.tm_envcheck.proofs.conditions.having_new.Goals as goal

pub returns-clause-tried : goal.returns-clause-tried
returns-clause-tried c =
    IfOk-weaker c.wants.result _ _
    (λ v verdict d of k can tells.
    has_new_tried d c.args.game.now of k c.args.level.now tells can c.requires.level v (verdict d can))
    c.wants.ensures.verdict

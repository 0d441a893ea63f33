use Rattle.std.proofs.lemmas.Result.{IfOk-weaker}
use Rattle.tm_envcheck.proofs.Growing.{can_kept}
use Rattle.tm_envcheck.proofs.LevelParts.{holds_before_tried}
use Rattle.tm_game.proofs.Growing.{grows_then}
use Rattle.tm_envcheck.proofs.conditions.holding_before.Goals as goal

pub returns-clause-grows : goal.returns-clause-grows
returns-clause-grows c = grows_then _ _ _ c.without.ensures.grows c.fails_at.ensures.grows

pub returns-clause-tried : goal.returns-clause-tried
returns-clause-tried c =
    IfOk-weaker c.fails_at.result _ _
    (λ v verdict d of k can tells.
    holds_before_tried d c.args.game.now of k c.args.level.now tells can c.without.new.game c.without.ensures.grows
    c.in_ok-lost.lost c.in_ok-lost.ensures.value v
    (verdict d (can_kept c.args.game.now c.without.new.game c.without.ensures.grows d can).of))
    c.fails_at.ensures.verdict

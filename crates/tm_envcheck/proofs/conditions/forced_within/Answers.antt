use Rattle.std.proofs.lemmas.Result.{IfOk-weaker}
use Rattle.tm_envcheck.proofs.LevelParts.{forced_within_tried}
use Rattle.tm_game.proofs.Growing.{grows_then, of_kept}
use Rattle.tm_envcheck.proofs.conditions.forced_within.Goals as goal

pub returns-clause-grows : goal.returns-clause-grows
returns-clause-grows c = grows_then _ _ _ c.unforced.ensures.grows c.fails_at.ensures.grows

pub returns-clause-tried : goal.returns-clause-tried
returns-clause-tried c =
    IfOk-weaker c.fails_at.result _ _
    (λ v verdict d of k can tells.
    forced_within_tried d c.args.game.now of k c.args.level.now tells can c.requires.level c.unforced.new.game
    c.in_ok-failing.failing (c.in_ok-failing.ensures.value d can.of) (c.in_ok-failing.ensures.decided d can.of) v
    (verdict d (of_kept c.args.game.now c.unforced.new.game c.unforced.ensures.grows d can.of)))
    c.fails_at.ensures.verdict

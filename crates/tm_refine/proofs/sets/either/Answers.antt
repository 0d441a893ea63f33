use Rattle.std.proofs.lemmas.Result.{IfOk-weaker}
use Rattle.tm_refine.proofs.PoolKeeps.{design_of, is_pooled, keeps_by}
use Rattle.tm_refine.proofs.sets.either.Goals as goal

pub either-requires-clause-of : goal.either-requires-clause-of
either-requires-clause-of c = design_of c.args.game.now c.requires.can

pub returns-clause-value : goal.returns-clause-value
returns-clause-value c =
    IfOk-weaker c.either.result _ _ (λ id is. is_pooled _ c.either.new.game id _ is) c.either.ensures.value

pub returns-clause-kept : goal.returns-clause-kept
returns-clause-kept c =
    keeps_by c.args.game.now c.either.new.game c.either.ensures.grows c.either.ensures.follows c.requires.can

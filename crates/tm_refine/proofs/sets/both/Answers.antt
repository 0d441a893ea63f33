use Rattle.std.proofs.lemmas.Result.{IfOk-weaker}
use Rattle.tm_refine.proofs.PoolKeeps.{design_of, is_pooled, keeps_by}
use Rattle.tm_refine.proofs.sets.both.Goals as goal

pub both-requires-clause-of : goal.both-requires-clause-of
both-requires-clause-of c = design_of c.args.game.now c.requires.can

pub returns-clause-value : goal.returns-clause-value
returns-clause-value c =
    IfOk-weaker c.both.result _ _ (λ id is. is_pooled _ c.both.new.game id _ is) c.both.ensures.value

pub returns-clause-kept : goal.returns-clause-kept
returns-clause-kept c =
    keeps_by c.args.game.now c.both.new.game c.both.ensures.grows c.both.ensures.follows c.requires.can

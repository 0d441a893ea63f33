use Rattle.std.proofs.lemmas.Result.{IfOk-weaker}
use Rattle.tm_refine.proofs.PoolKeeps.{design_of, is_pooled, keeps_by}
use Rattle.tm_refine.proofs.sets.rest.Goals as goal

pub rest-requires-clause-of : goal.rest-requires-clause-of
rest-requires-clause-of c = design_of c.args.game.now c.requires.can

pub returns-clause-value : goal.returns-clause-value
returns-clause-value c =
    IfOk-weaker c.rest.result _ _ (λ id is. is_pooled _ c.rest.new.game id _ is) c.rest.ensures.value

pub returns-clause-kept : goal.returns-clause-kept
returns-clause-kept c =
    keeps_by c.args.game.now c.rest.new.game c.rest.ensures.grows c.rest.ensures.follows c.requires.can

use Rattle.std.proofs.lemmas.Result.{IfOk-weaker}
use Rattle.tm_refine.proofs.PoolKeeps.{design_of, is_pooled, keeps_by}
use Rattle.tm_refine.proofs.sets.part.Goals as goal

pub part-requires-clause-of : goal.part-requires-clause-of
part-requires-clause-of c = design_of c.args.game.now c.requires.can

pub returns-clause-value : goal.returns-clause-value
returns-clause-value c =
    IfOk-weaker c.part.result _ _ (λ id is. is_pooled _ c.part.new.game id _ is) c.part.ensures.value

pub returns-clause-kept : goal.returns-clause-kept
returns-clause-kept c =
    keeps_by c.args.game.now c.part.new.game c.part.ensures.grows c.part.ensures.follows c.requires.can

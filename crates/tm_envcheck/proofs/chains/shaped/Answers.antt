use Rattle.std.proofs.Common.{length, sym, ◌∙◌, eqb-true, pos_of_ne-zero}
use Rattle.std.proofs.lemmas.Bool.{eqb-false}
use Rattle.std.proofs.lemmas.Result.{IfOk-weaker}
use Rattle.tm_envcheck.proofs.ChainParts.{empty_tried, sets_tried}
use Rattle.tm_envcheck.proofs.chains.shaped.Goals as goal

pub returns-then-is_empty-clause-tried : goal.returns-then-is_empty-clause-tried
returns-then-is_empty-clause-tried c =
    IfOk-weaker c.fails.result _ _
    (λ v verdict d of k i can tells there.
    empty_tried d c.args.game.now of k c.args.level.now tells i c.args.chain.now there
    (eqb-true (length c.args.chain.now) 0 (sym c.is_empty.ensures ∙ c.if-is_empty.true)) v (verdict d can))
    c.fails.ensures.verdict

pub returns-else-is_empty-clause-tried : goal.returns-else-is_empty-clause-tried
returns-else-is_empty-clause-tried c =
    IfOk-weaker c.over_sets.result _ _
    (λ v tried d of k i can tells there.
    sets_tried d c.args.game.now of k c.args.level.now tells i c.args.chain.now there
    (pos_of_ne-zero (eqb-false (length c.args.chain.now) 0 (sym c.is_empty.ensures ∙ c.if-is_empty.false))) v
    (tried d of k i can tells there))
    c.over_sets.ensures.tried

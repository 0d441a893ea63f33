use Rattle.std.proofs.lemmas.Result.{IfOk-weaker}
use Rattle.tm_envcheck.proofs.ChainParts.{in_chain_tried}
use Rattle.tm_game.proofs.Growing.{grows_then, of_kept, set_kept}
use Rattle.tm_envcheck.proofs.chains.holding.Goals as goal

pub without-requires-clause-a : goal.without-requires-clause-a
without-requires-clause-a c = set_kept c.args.game.now c.union.new.game c.union.ensures.grows _ c.requires.level.added

pub returns-in_err-outside-clause-grows : goal.returns-in_err-outside-clause-grows
returns-in_err-outside-clause-grows c = grows_then _ _ _ c.union.ensures.grows c.without.ensures.grows

pub returns-clause-grows : goal.returns-clause-grows
returns-clause-grows c =
    grows_then _ _ _ c.union.ensures.grows (grows_then _ _ _ c.without.ensures.grows c.fails_at.ensures.grows)

pub returns-clause-tried : goal.returns-clause-tried
returns-clause-tried c =
    IfOk-weaker c.fails_at.result _ _
    (λ v verdict d of k i can tells there.
    in_chain_tried d c.args.game.now of k c.args.level.now tells i c.args.chain.now there can c.requires.level
    c.union.new.game c.union.ensures.grows c.without.new.game c.without.ensures.grows c.in_ok-held.held
    c.in_ok-outside.outside c.in_ok-held.ensures.value c.in_ok-outside.ensures.value v
    (verdict d
    (of_kept c.union.new.game c.without.new.game c.without.ensures.grows d
    (of_kept c.args.game.now c.union.new.game c.union.ensures.grows d can.of))))
    c.fails_at.ensures.verdict

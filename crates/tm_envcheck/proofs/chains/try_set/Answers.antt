use Rattle.std.proofs.Common.{[], ◌∷◌, subst}
use Rattle.std.proofs.lemmas.Result.{IfOk-weaker}
use Rattle.tm_envcheck.specs.Tried.{AreTried}
use Rattle.tm_envcheck.proofs.ChainParts.{grows_tried, lies_in_tried}
use Rattle.tm_envcheck.proofs.Growing.{can_kept, over_kept, set_told_kept, told_kept}
use Rattle.tm_game.proofs.Growing.{grows_then, of_kept, set_kept}
use Rattle.tm_verdict.specs.Environment.{grows, level_meaning, lies_in}
use Rattle.tm_verdict.proofs.Trying.{refused_stop, tried_then}
use Rattle.tm_envcheck.proofs.chains.try_set.Goals as goal

pub returns-in_err-fails_at-clause-grows : goal.returns-in_err-fails_at-clause-grows
returns-in_err-fails_at-clause-grows c = grows_then _ _ _ c.without.ensures.grows c.fails_at.ensures.grows

pub returns-in-Refused-clause-grows : goal.returns-in-Refused-clause-grows
returns-in-Refused-clause-grows c = grows_then _ _ _ c.without.ensures.grows c.fails_at.ensures.grows

pub returns-in-Refused-clause-tried : goal.returns-in-Refused-clause-tried
returns-in-Refused-clause-tried c = λ d of k i x can tells set_told.
    refused_stop (level_meaning d of) (grows k i x ∷ []) (lies_in k i x ∷ []) c.in-Refused.condition c.in-Refused.goal
    c.in-Refused.state
    (subst (AreTried d of (grows k i x ∷ [])) c.in-Refused.is
    (grows_tried d c.args.game.now of k c.args.level.now tells can i x c.args.before c.args.set set_told
    c.without.new.game c.without.ensures.grows c.in_ok-lost.lost c.in_ok-lost.ensures.value _
    (c.in_ok-fails_at.ensures.verdict d
    (of_kept c.args.game.now c.without.new.game c.without.ensures.grows d can.of))))

pub without-requires-2-clause-a : goal.without-requires-2-clause-a
without-requires-2-clause-a c =
    set_kept c.without.new.game c.fails_at.new.game c.fails_at.ensures.grows c.args.set
    (set_kept c.args.game.now c.without.new.game c.without.ensures.grows c.args.set c.requires.set)

pub without-requires-2-clause-b : goal.without-requires-2-clause-b
without-requires-2-clause-b c =
    set_kept c.without.new.game c.fails_at.new.game c.fails_at.ensures.grows _
    (set_kept c.args.game.now c.without.new.game c.without.ensures.grows _ c.requires.level.set)

pub returns-in_err-outside-clause-grows : goal.returns-in_err-outside-clause-grows
returns-in_err-outside-clause-grows c =
    grows_then _ _ _ c.without.ensures.grows
    (grows_then _ _ _ c.fails_at.ensures.grows c.without-2.ensures.grows)

pub returns-clause-grows : goal.returns-clause-grows
returns-clause-grows c =
    grows_then _ _ _ c.without.ensures.grows
    (grows_then _ _ _ c.fails_at.ensures.grows
    (grows_then _ _ _ c.without-2.ensures.grows c.fails_at-2.ensures.grows))

pub returns-clause-tried : goal.returns-clause-tried
returns-clause-tried c =
    IfOk-weaker c.fails_at-2.result _ _
    (λ v verdict d of k i x can tells set_told.
    let still = can_kept c.args.game.now c.without.new.game c.without.ensures.grows d can in
    let now = can_kept c.without.new.game c.fails_at.new.game c.fails_at.ensures.grows d still in
    let over = over_kept c.args.game.now c.without.new.game c.without.ensures.grows c.args.level.now
    c.requires.level in
    let told = told_kept c.without.new.game c.fails_at.new.game c.fails_at.ensures.grows d of k c.args.level.now over
    (told_kept c.args.game.now c.without.new.game c.without.ensures.grows d of k c.args.level.now c.requires.level
    tells) in
    let set = set_told_kept c.without.new.game c.fails_at.new.game c.fails_at.ensures.grows d of k i x c.args.before
    c.args.set
    (set_kept c.args.game.now c.without.new.game c.without.ensures.grows c.args.before c.requires.before)
    (set_kept c.args.game.now c.without.new.game c.without.ensures.grows c.args.set c.requires.set)
    (set_told_kept c.args.game.now c.without.new.game c.without.ensures.grows d of k i x c.args.before c.args.set
    c.requires.before c.requires.set set_told) in
    tried_then (level_meaning d of) (grows k i x ∷ []) (lies_in k i x ∷ []) v
    (subst (AreTried d of (grows k i x ∷ [])) c.in-Accepted.is
    (grows_tried d c.args.game.now of k c.args.level.now tells can i x c.args.before c.args.set set_told
    c.without.new.game c.without.ensures.grows c.in_ok-lost.lost c.in_ok-lost.ensures.value _
    (c.in_ok-fails_at.ensures.verdict d still.of)))
    (lies_in_tried d c.fails_at.new.game of k c.args.level.now told now i x c.args.before c.args.set set
    c.without-2.new.game c.without-2.ensures.grows c.in_ok-outside.outside c.in_ok-outside.ensures.value v
    (verdict d (of_kept c.fails_at.new.game c.without-2.new.game c.without-2.ensures.grows d now.of))))
    c.fails_at-2.ensures.verdict

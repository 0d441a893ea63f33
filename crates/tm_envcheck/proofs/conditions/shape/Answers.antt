use Rattle.std.proofs.Common.{[], ◌∷◌, subst}
use Rattle.std.specs.List.{flat_map}
use Rattle.std.proofs.lemmas.Result.{IfOk-weaker}
use Rattle.tm_envcheck.specs.Tried.{AreTried}
use Rattle.tm_envcheck.proofs.Growing.{can_kept, over_kept, ready_kept, told_kept}
use Rattle.tm_game.proofs.Growing.{grows_then}
use Rattle.tm_verdict.specs.declared.verdict.Verdict.TheVariants.{Refused}
use Rattle.tm_verdict.specs.Environment.{chain_parts, chain_places, has_new, holds_before, level_meaning}
use Rattle.tm_verdict.proofs.Trying.{refused_stop, tried_then}
use Rattle.tm_envcheck.proofs.conditions.shape.Goals as goal

pub returns-in-Refused-clause-tried : goal.returns-in-Refused-clause-tried
returns-in-Refused-clause-tried c = λ d of k can tells.
    refused_stop (level_meaning d of) (holds_before k ∷ [])
    (has_new k ∷ flat_map (chain_parts of k) (chain_places of k))
    c.in-Refused.condition c.in-Refused.goal c.in-Refused.state
    (subst (AreTried d of (holds_before k ∷ [])) c.in-Refused.is
    (c.in_ok-holding_before.ensures.tried d of k can tells))

pub having_new-requires-clause-ready : goal.having_new-requires-clause-ready
having_new-requires-clause-ready c =
    ready_kept c.args.game.now c.holding_before.new.game c.holding_before.ensures.grows c.requires.ready

pub having_new-requires-clause-level : goal.having_new-requires-clause-level
having_new-requires-clause-level c =
    over_kept c.args.game.now c.holding_before.new.game c.holding_before.ensures.grows c.args.level.now
    c.requires.level

pub returns-in_err-having_new-clause-grows : goal.returns-in_err-having_new-clause-grows
returns-in_err-having_new-clause-grows c =
    grows_then _ _ _ c.holding_before.ensures.grows c.having_new.ensures.grows

pub returns-in-Refused-2-clause-grows : goal.returns-in-Refused-2-clause-grows
returns-in-Refused-2-clause-grows c = grows_then _ _ _ c.holding_before.ensures.grows c.having_new.ensures.grows

pub returns-in-Refused-2-clause-tried : goal.returns-in-Refused-2-clause-tried
returns-in-Refused-2-clause-tried c = λ d of k can tells.
    tried_then (level_meaning d of) (holds_before k ∷ []) (has_new k ∷ flat_map (chain_parts of k) (chain_places of k))
    (Refused c.in-Refused-2.condition c.in-Refused-2.goal c.in-Refused-2.state)
    (subst (AreTried d of (holds_before k ∷ [])) c.in-Accepted.is
    (c.in_ok-holding_before.ensures.tried d of k can tells))
    (refused_stop (level_meaning d of) (has_new k ∷ []) (flat_map (chain_parts of k) (chain_places of k))
    c.in-Refused-2.condition c.in-Refused-2.goal c.in-Refused-2.state
    (subst (AreTried d of (has_new k ∷ [])) c.in-Refused-2.is
    (c.in_ok-having_new.ensures.tried d of k
    (can_kept c.args.game.now c.holding_before.new.game c.holding_before.ensures.grows d can)
    (told_kept c.args.game.now c.holding_before.new.game c.holding_before.ensures.grows d of k c.args.level.now
    c.requires.level tells))))

pub over_chains-requires-clause-ready : goal.over_chains-requires-clause-ready
over_chains-requires-clause-ready c =
    ready_kept c.holding_before.new.game c.having_new.new.game c.having_new.ensures.grows
    (ready_kept c.args.game.now c.holding_before.new.game c.holding_before.ensures.grows c.requires.ready)

pub over_chains-requires-clause-level : goal.over_chains-requires-clause-level
over_chains-requires-clause-level c =
    over_kept c.holding_before.new.game c.having_new.new.game c.having_new.ensures.grows c.args.level.now
    (over_kept c.args.game.now c.holding_before.new.game c.holding_before.ensures.grows c.args.level.now
    c.requires.level)

pub returns-clause-grows : goal.returns-clause-grows
returns-clause-grows c =
    grows_then _ _ _ c.holding_before.ensures.grows
    (grows_then _ _ _ c.having_new.ensures.grows c.over_chains.ensures.grows)

pub returns-clause-tried : goal.returns-clause-tried
returns-clause-tried c =
    IfOk-weaker c.over_chains.result _ _
    (λ v tried d of k can tells.
    let still = can_kept c.args.game.now c.holding_before.new.game c.holding_before.ensures.grows d can in
    let told = told_kept c.args.game.now c.holding_before.new.game c.holding_before.ensures.grows d of k
    c.args.level.now c.requires.level tells in
    tried_then (level_meaning d of) (holds_before k ∷ []) (has_new k ∷ flat_map (chain_parts of k) (chain_places of k))
    v (subst (AreTried d of (holds_before k ∷ [])) c.in-Accepted.is
    (c.in_ok-holding_before.ensures.tried d of k can tells))
    (tried_then (level_meaning d of) (has_new k ∷ []) (flat_map (chain_parts of k) (chain_places of k)) v
    (subst (AreTried d of (has_new k ∷ [])) c.in-Accepted-2.is (c.in_ok-having_new.ensures.tried d of k still told))
    (tried d of k (can_kept c.holding_before.new.game c.having_new.new.game c.having_new.ensures.grows d still)
    (told_kept c.holding_before.new.game c.having_new.new.game c.having_new.ensures.grows d of k c.args.level.now
    (over_kept c.args.game.now c.holding_before.new.game c.holding_before.ensures.grows c.args.level.now
    c.requires.level) told) (λ i. tt))))
    c.over_chains.ensures.tried

use Rattle.std.proofs.Common.{[], ◌∷◌, ◌++◌, List, subst}
use Rattle.std.specs.List.{flat_map}
use Rattle.std.proofs.lemmas.Result.{IfOk-weaker}
use Rattle.tm_envcheck.specs.declared.conditions.LevelCondition.TheVariants.{Shape}
use Rattle.tm_envcheck.specs.Inner.Parts.{parts_at, step_parts}
use Rattle.tm_envcheck.specs.Tried.{AreTried}
use Rattle.tm_envcheck.proofs.Growing.{can_kept, overs_kept, ready_kept, tell_kept}
use Rattle.tm_envcheck.proofs.Whole.{whole}
use Rattle.tm_game.proofs.Growing.{grows_then}
use Rattle.tm_verdict.specs.declared.verdict.Verdict.TheVariants.{Refused}
use Rattle.tm_verdict.specs.Environment.{LevelPart, begins_lost, level_meaning, level_places}
use Rattle.tm_verdict.proofs.Trying.{refused_stop, tried_then}
use Rattle.tm_envcheck.proofs.check.try_all.Goals as goal

pub returns-in-Refused-clause-tried : goal.returns-in-Refused-clause-tried
returns-in-Refused-clause-tried c = λ d of can tell.
    subst (λ (parts : List LevelPart). AreTried d of parts
    (Refused c.in-Refused.condition c.in-Refused.goal c.in-Refused.state)) (whole of)
    (refused_stop (level_meaning d of) (flat_map (parts_at Shape of) (level_places of))
    ((begins_lost ∷ []) ++ step_parts of)
    c.in-Refused.condition c.in-Refused.goal c.in-Refused.state
    (subst (AreTried d of (flat_map (parts_at Shape of) (level_places of))) c.in-Refused.is
    (c.in_ok-over_levels.ensures.tried d of can tell (λ k. tt))))

pub beginning-requires-clause-ready : goal.beginning-requires-clause-ready
beginning-requires-clause-ready c =
    ready_kept c.args.game.now c.over_levels.new.game c.over_levels.ensures.grows c.requires.ready

pub beginning-requires-clause-levels : goal.beginning-requires-clause-levels
beginning-requires-clause-levels c =
    overs_kept c.args.game.now c.over_levels.new.game c.over_levels.ensures.grows c.args.levels.now c.requires.levels

pub returns-in_err-beginning-clause-grows : goal.returns-in_err-beginning-clause-grows
returns-in_err-beginning-clause-grows c = grows_then _ _ _ c.over_levels.ensures.grows c.beginning.ensures.grows

pub returns-in-Refused-2-clause-grows : goal.returns-in-Refused-2-clause-grows
returns-in-Refused-2-clause-grows c = grows_then _ _ _ c.over_levels.ensures.grows c.beginning.ensures.grows

pub returns-in-Refused-2-clause-tried : goal.returns-in-Refused-2-clause-tried
returns-in-Refused-2-clause-tried c = λ d of can tell.
    subst (λ (parts : List LevelPart). AreTried d of parts
    (Refused c.in-Refused-2.condition c.in-Refused-2.goal c.in-Refused-2.state)) (whole of)
    (tried_then (level_meaning d of) (flat_map (parts_at Shape of) (level_places of))
    ((begins_lost ∷ []) ++ step_parts of)
    (Refused c.in-Refused-2.condition c.in-Refused-2.goal c.in-Refused-2.state)
    (subst (AreTried d of (flat_map (parts_at Shape of) (level_places of))) c.in-Accepted.is
    (c.in_ok-over_levels.ensures.tried d of can tell (λ k. tt)))
    (refused_stop (level_meaning d of) (begins_lost ∷ []) (step_parts of) c.in-Refused-2.condition c.in-Refused-2.goal
    c.in-Refused-2.state
    (subst (AreTried d of (begins_lost ∷ [])) c.in-Refused-2.is
    (c.in_ok-beginning.ensures.tried d of
    (can_kept c.args.game.now c.over_levels.new.game c.over_levels.ensures.grows d can)
    (tell_kept c.args.game.now c.over_levels.new.game c.over_levels.ensures.grows d of c.args.levels.now
    c.requires.levels tell)))))

pub try_steps-requires-clause-ready : goal.try_steps-requires-clause-ready
try_steps-requires-clause-ready c =
    ready_kept c.over_levels.new.game c.beginning.new.game c.beginning.ensures.grows
    (ready_kept c.args.game.now c.over_levels.new.game c.over_levels.ensures.grows c.requires.ready)

pub try_steps-requires-clause-levels : goal.try_steps-requires-clause-levels
try_steps-requires-clause-levels c =
    overs_kept c.over_levels.new.game c.beginning.new.game c.beginning.ensures.grows c.args.levels.now
    (overs_kept c.args.game.now c.over_levels.new.game c.over_levels.ensures.grows c.args.levels.now
    c.requires.levels)

pub returns-clause-grows : goal.returns-clause-grows
returns-clause-grows c =
    grows_then _ _ _ c.over_levels.ensures.grows
    (grows_then _ _ _ c.beginning.ensures.grows c.try_steps.ensures.grows)

pub returns-clause-tried : goal.returns-clause-tried
returns-clause-tried c =
    IfOk-weaker c.try_steps.result _ _
    (λ v tried d of can tell.
    let still = can_kept c.args.game.now c.over_levels.new.game c.over_levels.ensures.grows d can in
    let over = overs_kept c.args.game.now c.over_levels.new.game c.over_levels.ensures.grows c.args.levels.now
    c.requires.levels in
    let told = tell_kept c.args.game.now c.over_levels.new.game c.over_levels.ensures.grows d of c.args.levels.now
    c.requires.levels tell in
    subst (λ (parts : List LevelPart). AreTried d of parts v) (whole of)
    (tried_then (level_meaning d of) (flat_map (parts_at Shape of) (level_places of))
    ((begins_lost ∷ []) ++ step_parts of) v
    (subst (AreTried d of (flat_map (parts_at Shape of) (level_places of))) c.in-Accepted.is
    (c.in_ok-over_levels.ensures.tried d of can tell (λ k. tt)))
    (tried_then (level_meaning d of) (begins_lost ∷ []) (step_parts of) v
    (subst (AreTried d of (begins_lost ∷ [])) c.in-Accepted-2.is
    (c.in_ok-beginning.ensures.tried d of still told))
    (tried d of (can_kept c.over_levels.new.game c.beginning.new.game c.beginning.ensures.grows d still)
    (tell_kept c.over_levels.new.game c.beginning.new.game c.beginning.ensures.grows d of c.args.levels.now over
    told)))))
    c.try_steps.ensures.tried

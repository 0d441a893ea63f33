use Rattle.std.proofs.Common.{◌++◌, subst}
use Rattle.std.specs.List.{flat_map}
use Rattle.std.proofs.lemmas.Result.{IfOk-weaker}
use Rattle.tm_envcheck.specs.declared.conditions.LevelCondition.TheVariants.{ForcedOn, ForcedWithin, InChains}
use Rattle.tm_envcheck.specs.declared.conditions.LevelCondition.TheVariants.{WaitsOrFalls}
use Rattle.tm_envcheck.specs.Inner.Parts.{parts_at}
use Rattle.tm_envcheck.specs.Tried.{AreTried}
use Rattle.tm_envcheck.proofs.Growing.{can_kept, overs_kept, ready_kept, tell_kept}
use Rattle.tm_envcheck.proofs.Whole.{in_chains_pass}
use Rattle.tm_game.proofs.Growing.{grows_then}
use Rattle.tm_verdict.specs.declared.verdict.Verdict.TheVariants.{Refused}
use Rattle.tm_verdict.specs.Environment.{level_meaning, level_places}
use Rattle.tm_verdict.proofs.Trying.{refused_stop, tried_then}
use Rattle.tm_envcheck.proofs.check.try_steps.Goals as goal

pub returns-in-Refused-clause-tried : goal.returns-in-Refused-clause-tried
returns-in-Refused-clause-tried c = λ d of can tell.
    refused_stop (level_meaning d of) (flat_map (parts_at ForcedOn of) (level_places of))
    ((flat_map (parts_at InChains of)
    (level_places of)) ++ ((flat_map (parts_at ForcedWithin of) (level_places of)) ++ (flat_map (parts_at WaitsOrFalls
    of) (level_places of)))) c.in-Refused.condition c.in-Refused.goal
    c.in-Refused.state
    (subst (AreTried d of (flat_map (parts_at ForcedOn of) (level_places of))) c.in-Refused.is
    (c.in_ok-over_levels.ensures.tried d of can tell (λ k. tt)))

pub returns-in_err-over_levels-2-clause-grows : goal.returns-in_err-over_levels-2-clause-grows
returns-in_err-over_levels-2-clause-grows c = grows_then _ _ _ c.over_levels.ensures.grows c.over_levels-2.ensures.grows

pub returns-in-Refused-2-clause-grows : goal.returns-in-Refused-2-clause-grows
returns-in-Refused-2-clause-grows c = grows_then _ _ _ c.over_levels.ensures.grows c.over_levels-2.ensures.grows

pub returns-in-Refused-2-clause-tried : goal.returns-in-Refused-2-clause-tried
returns-in-Refused-2-clause-tried c = λ d of can tell.
    tried_then (level_meaning d of) (flat_map (parts_at ForcedOn of) (level_places of))
    ((flat_map (parts_at InChains of)
    (level_places of)) ++ ((flat_map (parts_at ForcedWithin of) (level_places of)) ++ (flat_map (parts_at WaitsOrFalls
    of) (level_places of)))) (Refused c.in-Refused-2.condition c.in-Refused-2.goal c.in-Refused-2.state)
    (subst (AreTried d of (flat_map (parts_at ForcedOn of) (level_places of))) c.in-Accepted.is
    (c.in_ok-over_levels.ensures.tried d of can tell (λ k. tt)))
    (refused_stop (level_meaning d of) (flat_map (parts_at InChains of) (level_places of))
    ((flat_map (parts_at ForcedWithin of)
    (level_places of)) ++ (flat_map (parts_at WaitsOrFalls of) (level_places of))) c.in-Refused-2.condition
    c.in-Refused-2.goal
    c.in-Refused-2.state
    (subst (AreTried d of (flat_map (parts_at InChains of) (level_places of))) c.in-Refused-2.is
    (c.in_ok-over_levels-2.ensures.tried d of (can_kept c.args.game.now c.over_levels.new.game
    c.over_levels.ensures.grows d
    can) (tell_kept c.args.game.now c.over_levels.new.game c.over_levels.ensures.grows d of c.args.levels.now
    c.requires.levels tell) (λ k. tt))))

pub returns-in_err-over_levels-3-clause-grows : goal.returns-in_err-over_levels-3-clause-grows
returns-in_err-over_levels-3-clause-grows c = grows_then _ _ _ c.over_levels.ensures.grows (grows_then _ _ _
    c.over_levels-2.ensures.grows c.over_levels-3.ensures.grows)

pub returns-in-Refused-3-clause-grows : goal.returns-in-Refused-3-clause-grows
returns-in-Refused-3-clause-grows c = grows_then _ _ _ c.over_levels.ensures.grows (grows_then _ _ _
    c.over_levels-2.ensures.grows c.over_levels-3.ensures.grows)

pub returns-in-Refused-3-clause-tried : goal.returns-in-Refused-3-clause-tried
returns-in-Refused-3-clause-tried c = λ d of can tell.
    tried_then (level_meaning d of) (flat_map (parts_at ForcedOn of) (level_places of))
    ((flat_map (parts_at InChains of)
    (level_places of)) ++ ((flat_map (parts_at ForcedWithin of) (level_places of)) ++ (flat_map (parts_at WaitsOrFalls
    of) (level_places of)))) (Refused c.in-Refused-3.condition c.in-Refused-3.goal c.in-Refused-3.state)
    (subst (AreTried d of (flat_map (parts_at ForcedOn of) (level_places of))) c.in-Accepted.is
    (c.in_ok-over_levels.ensures.tried d of can tell (λ k. tt)))
    (tried_then (level_meaning d of) (flat_map (parts_at InChains of) (level_places of))
    ((flat_map (parts_at ForcedWithin of) (level_places of)) ++ (flat_map (parts_at WaitsOrFalls of) (level_places of)))
    (Refused c.in-Refused-3.condition c.in-Refused-3.goal c.in-Refused-3.state)
    (subst (AreTried d of (flat_map (parts_at InChains of) (level_places of))) c.in-Accepted-2.is
    (c.in_ok-over_levels-2.ensures.tried d of (can_kept c.args.game.now c.over_levels.new.game
    c.over_levels.ensures.grows d
    can) (tell_kept c.args.game.now c.over_levels.new.game c.over_levels.ensures.grows d of c.args.levels.now
    c.requires.levels tell) (λ k. tt)))
    (refused_stop (level_meaning d of) (flat_map (parts_at ForcedWithin of) (level_places of))
    (flat_map (parts_at WaitsOrFalls of) (level_places of)) c.in-Refused-3.condition c.in-Refused-3.goal
    c.in-Refused-3.state
    (subst (AreTried d of (flat_map (parts_at ForcedWithin of) (level_places of))) c.in-Refused-3.is
    (c.in_ok-over_levels-3.ensures.tried d of (can_kept c.over_levels.new.game c.over_levels-2.new.game
    c.over_levels-2.ensures.grows d
    (can_kept c.args.game.now c.over_levels.new.game c.over_levels.ensures.grows d
    can)) (tell_kept c.over_levels.new.game c.over_levels-2.new.game c.over_levels-2.ensures.grows d of
    c.args.levels.now
    (overs_kept c.args.game.now c.over_levels.new.game c.over_levels.ensures.grows c.args.levels.now
    c.requires.levels) (tell_kept c.args.game.now c.over_levels.new.game c.over_levels.ensures.grows d of
    c.args.levels.now
    c.requires.levels tell)) (λ k. tt)))))

pub over_levels-requires-2-clause-ready : goal.over_levels-requires-2-clause-ready
over_levels-requires-2-clause-ready c =
    ready_kept c.args.game.now c.over_levels.new.game c.over_levels.ensures.grows
    c.requires.ready

pub over_levels-requires-2-clause-levels : goal.over_levels-requires-2-clause-levels
over_levels-requires-2-clause-levels c =
    overs_kept c.args.game.now c.over_levels.new.game c.over_levels.ensures.grows c.args.levels.now
    c.requires.levels

pub over_levels-requires-3-clause-ready : goal.over_levels-requires-3-clause-ready
over_levels-requires-3-clause-ready c =
    ready_kept c.over_levels.new.game c.over_levels-2.new.game c.over_levels-2.ensures.grows
    (ready_kept c.args.game.now c.over_levels.new.game c.over_levels.ensures.grows c.requires.ready)

pub over_levels-requires-3-clause-levels : goal.over_levels-requires-3-clause-levels
over_levels-requires-3-clause-levels c =
    overs_kept c.over_levels.new.game c.over_levels-2.new.game c.over_levels-2.ensures.grows c.args.levels.now
    (overs_kept c.args.game.now c.over_levels.new.game c.over_levels.ensures.grows c.args.levels.now
    c.requires.levels)

pub over_levels-requires-4-clause-ready : goal.over_levels-requires-4-clause-ready
over_levels-requires-4-clause-ready c =
    ready_kept c.over_levels-2.new.game c.over_levels-3.new.game c.over_levels-3.ensures.grows
    (ready_kept c.over_levels.new.game c.over_levels-2.new.game c.over_levels-2.ensures.grows
    (ready_kept c.args.game.now c.over_levels.new.game c.over_levels.ensures.grows c.requires.ready))

pub over_levels-requires-4-clause-levels : goal.over_levels-requires-4-clause-levels
over_levels-requires-4-clause-levels c =
    overs_kept c.over_levels-2.new.game c.over_levels-3.new.game c.over_levels-3.ensures.grows c.args.levels.now
    (overs_kept c.over_levels.new.game c.over_levels-2.new.game c.over_levels-2.ensures.grows c.args.levels.now
    (overs_kept c.args.game.now c.over_levels.new.game c.over_levels.ensures.grows c.args.levels.now
    c.requires.levels))

pub returns-clause-grows : goal.returns-clause-grows
returns-clause-grows c =
    grows_then _ _ _ c.over_levels.ensures.grows (grows_then _ _ _ c.over_levels-2.ensures.grows (grows_then _ _ _
    c.over_levels-3.ensures.grows c.over_levels-4.ensures.grows))

pub returns-clause-tried : goal.returns-clause-tried
returns-clause-tried c =
    IfOk-weaker c.over_levels-4.result _ _
    (λ v tried d of can tell.
    tried_then (level_meaning d of) (flat_map (parts_at ForcedOn of) (level_places of))
    ((flat_map (parts_at InChains of)
    (level_places of)) ++ ((flat_map (parts_at ForcedWithin of) (level_places of)) ++ (flat_map (parts_at WaitsOrFalls
    of) (level_places of)))) v
    (subst (AreTried d of (flat_map (parts_at ForcedOn of) (level_places of))) c.in-Accepted.is
    (c.in_ok-over_levels.ensures.tried d of can tell (λ k. tt)))
    (tried_then (level_meaning d of) (flat_map (parts_at InChains of) (level_places of))
    ((flat_map (parts_at ForcedWithin of)
    (level_places of)) ++ (flat_map (parts_at WaitsOrFalls of) (level_places of))) v
    (subst (AreTried d of (flat_map (parts_at InChains of) (level_places of))) c.in-Accepted-2.is
    (c.in_ok-over_levels-2.ensures.tried d of (can_kept c.args.game.now c.over_levels.new.game
    c.over_levels.ensures.grows d
    can) (tell_kept c.args.game.now c.over_levels.new.game c.over_levels.ensures.grows d of c.args.levels.now
    c.requires.levels tell) (λ k. tt)))
    (tried_then (level_meaning d of) (flat_map (parts_at ForcedWithin of) (level_places of))
    (flat_map (parts_at WaitsOrFalls of) (level_places of)) v
    (subst (AreTried d of (flat_map (parts_at ForcedWithin of) (level_places of))) c.in-Accepted-3.is
    (c.in_ok-over_levels-3.ensures.tried d of (can_kept c.over_levels.new.game c.over_levels-2.new.game
    c.over_levels-2.ensures.grows d
    (can_kept c.args.game.now c.over_levels.new.game c.over_levels.ensures.grows d
    can)) (tell_kept c.over_levels.new.game c.over_levels-2.new.game c.over_levels-2.ensures.grows d of
    c.args.levels.now
    (overs_kept c.args.game.now c.over_levels.new.game c.over_levels.ensures.grows c.args.levels.now
    c.requires.levels) (tell_kept c.args.game.now c.over_levels.new.game c.over_levels.ensures.grows d of
    c.args.levels.now
    c.requires.levels tell)) (λ k. tt)))
    (tried d of (can_kept c.over_levels-2.new.game c.over_levels-3.new.game c.over_levels-3.ensures.grows d
    (can_kept c.over_levels.new.game c.over_levels-2.new.game c.over_levels-2.ensures.grows d
    (can_kept c.args.game.now c.over_levels.new.game c.over_levels.ensures.grows d
    can))) (tell_kept c.over_levels-2.new.game c.over_levels-3.new.game c.over_levels-3.ensures.grows d of
    c.args.levels.now
    (overs_kept c.over_levels.new.game c.over_levels-2.new.game c.over_levels-2.ensures.grows c.args.levels.now
    (overs_kept c.args.game.now c.over_levels.new.game c.over_levels.ensures.grows c.args.levels.now
    c.requires.levels)) (tell_kept c.over_levels.new.game c.over_levels-2.new.game c.over_levels-2.ensures.grows d of
    c.args.levels.now
    (overs_kept c.args.game.now c.over_levels.new.game c.over_levels.ensures.grows c.args.levels.now
    c.requires.levels) (tell_kept c.args.game.now c.over_levels.new.game c.over_levels.ensures.grows d of
    c.args.levels.now
    c.requires.levels tell)))
    (in_chains_pass d of (subst (AreTried d of (flat_map (parts_at InChains of) (level_places of))) c.in-Accepted-2.is
    (c.in_ok-over_levels-2.ensures.tried d of (can_kept c.args.game.now c.over_levels.new.game
    c.over_levels.ensures.grows d
    can) (tell_kept c.args.game.now c.over_levels.new.game c.over_levels.ensures.grows d of c.args.levels.now
    c.requires.levels tell) (λ k. tt))))))))
    c.over_levels-4.ensures.tried

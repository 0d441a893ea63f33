use Rattle.std.proofs.Common.{[], ◌∷◌, ◌++◌, map, subst}
use Rattle.std.specs.List.{flat_map}
use Rattle.tm_check.specs.Tried.{AreTried}
use Rattle.tm_check.proofs.Keeping.{has_told_kept, told_kept}
use Rattle.tm_check.proofs.check.on_sets.Goals as goal
use Rattle.tm_cir.specs.Answer.{Answers}
use Rattle.tm_game.proofs.Growing.{grows_then}
use Rattle.tm_verdict.specs.Driver.{begins_within, driver_meaning, goal_parts, goals_of, is_calm, is_ranked}
use Rattle.tm_verdict.proofs.Trying.{tried_stop, tried_then}

pub returns-in_default-clause-tried : goal.returns-in_default-clause-tried
returns-in_default-clause-tried c = λ d bs cs is.
    tried_stop (driver_meaning d (Answers bs) cs) (flat_map (goal_parts cs) (goals_of cs))
    (begins_within ∷ [] ++ (map is_ranked (goals_of cs) ++ is_calm ∷ [])) c.in_ok-first.first
    c.in_default.not-Accepted (c.in_ok-first.ensures.tried d bs cs is)

pub beginning-requires : goal.beginning-requires
beginning-requires c = record {
  told = has_told_kept c.args.game.now c.regions.new.game c.regions.ensures.grows c.args.told.now c.requires.told;
}

pub returns-in_err-second-clause-grows : goal.returns-in_err-second-clause-grows
returns-in_err-second-clause-grows c =
    grows_then c.args.game.now c.regions.new.game c.beginning.new.game c.regions.ensures.grows
    c.beginning.ensures.grows

pub returns-in_default-second-clause-grows : goal.returns-in_default-second-clause-grows
returns-in_default-second-clause-grows c =
    grows_then c.args.game.now c.regions.new.game c.beginning.new.game c.regions.ensures.grows
    c.beginning.ensures.grows

pub returns-in_default-second-clause-tried : goal.returns-in_default-second-clause-tried
returns-in_default-second-clause-tried c = λ d bs cs is.
    tried_then (driver_meaning d (Answers bs) cs) (flat_map (goal_parts cs) (goals_of cs))
    (begins_within ∷ [] ++ (map is_ranked (goals_of cs) ++ is_calm ∷ [])) c.in_ok-second.second
    (subst (AreTried d (Answers bs) cs (flat_map (goal_parts cs) (goals_of cs))) c.in-Accepted.is
    (c.in_ok-first.ensures.tried d bs cs is))
    (tried_stop (driver_meaning d (Answers bs) cs) (begins_within ∷ []) (map is_ranked (goals_of cs) ++ is_calm ∷ [])
    c.in_ok-second.second c.in_default-second.not-Accepted
    (c.in_ok-second.ensures.tried d bs cs
    (told_kept d c.args.game.now c.regions.new.game c.regions.ensures.grows bs cs c.args.told.now is)))

pub ranking-requires : goal.ranking-requires
ranking-requires c = record {
  told = has_told_kept c.args.game.now c.beginning.new.game
      (grows_then c.args.game.now c.regions.new.game c.beginning.new.game c.regions.ensures.grows
      c.beginning.ensures.grows) c.args.told.now c.requires.told;
}

pub returns-in_err-third-clause-grows : goal.returns-in_err-third-clause-grows
returns-in_err-third-clause-grows c =
    grows_then c.args.game.now c.beginning.new.game c.ranking.new.game
    (grows_then c.args.game.now c.regions.new.game c.beginning.new.game c.regions.ensures.grows
    c.beginning.ensures.grows) c.ranking.ensures.grows

pub calming-requires : goal.calming-requires
calming-requires c = record {
  told = has_told_kept c.args.game.now c.ranking.new.game
      (grows_then c.args.game.now c.beginning.new.game c.ranking.new.game
      (grows_then c.args.game.now c.regions.new.game c.beginning.new.game c.regions.ensures.grows
      c.beginning.ensures.grows) c.ranking.ensures.grows) c.args.told.now c.requires.told;
}

pub returns-in_err-last-in-Accepted-third-clause-grows : goal.returns-in_err-last-in-Accepted-third-clause-grows
returns-in_err-last-in-Accepted-third-clause-grows c =
    grows_then c.args.game.now c.ranking.new.game c.calming.new.game
    (grows_then c.args.game.now c.beginning.new.game c.ranking.new.game
    (grows_then c.args.game.now c.regions.new.game c.beginning.new.game c.regions.ensures.grows
    c.beginning.ensures.grows) c.ranking.ensures.grows) c.calming.ensures.grows

pub returns-in_ok-last-in-Accepted-third-clause-grows : goal.returns-in_ok-last-in-Accepted-third-clause-grows
returns-in_ok-last-in-Accepted-third-clause-grows c =
    grows_then c.args.game.now c.ranking.new.game c.calming.new.game
    (grows_then c.args.game.now c.beginning.new.game c.ranking.new.game
    (grows_then c.args.game.now c.regions.new.game c.beginning.new.game c.regions.ensures.grows
    c.beginning.ensures.grows) c.ranking.ensures.grows) c.calming.ensures.grows

pub returns-in_ok-last-in-Accepted-third-clause-tried : goal.returns-in_ok-last-in-Accepted-third-clause-tried
returns-in_ok-last-in-Accepted-third-clause-tried c = λ d bs cs is.
    let two = grows_then c.args.game.now c.regions.new.game c.beginning.new.game c.regions.ensures.grows
    c.beginning.ensures.grows in
    let three = grows_then c.args.game.now c.beginning.new.game c.ranking.new.game two c.ranking.ensures.grows in
    tried_then (driver_meaning d (Answers bs) cs) (flat_map (goal_parts cs) (goals_of cs))
    (begins_within ∷ [] ++ (map is_ranked (goals_of cs) ++ is_calm ∷ [])) c.in_ok-last-in-Accepted-third.last
    (subst (AreTried d (Answers bs) cs (flat_map (goal_parts cs) (goals_of cs))) c.in-Accepted.is
    (c.in_ok-first.ensures.tried d bs cs is))
    (tried_then (driver_meaning d (Answers bs) cs) (begins_within ∷ []) (map is_ranked (goals_of cs) ++ is_calm ∷ [])
    c.in_ok-last-in-Accepted-third.last
    (subst (AreTried d (Answers bs) cs (begins_within ∷ [])) c.in-Accepted-second.is
    (c.in_ok-second.ensures.tried d bs cs
    (told_kept d c.args.game.now c.regions.new.game c.regions.ensures.grows bs cs c.args.told.now is)))
    (tried_then (driver_meaning d (Answers bs) cs) (map is_ranked (goals_of cs)) (is_calm ∷ [])
    c.in_ok-last-in-Accepted-third.last
    (subst (AreTried d (Answers bs) cs (map is_ranked (goals_of cs))) c.in-Accepted-third.is
    (c.in_ok-third.ensures.tried d bs cs
    (told_kept d c.args.game.now c.beginning.new.game two bs cs c.args.told.now is)))
    (c.in_ok-last-in-Accepted-third.ensures.tried d bs cs
    (told_kept d c.args.game.now c.ranking.new.game three bs cs c.args.told.now is))))

pub returns-in_default-third-clause-grows : goal.returns-in_default-third-clause-grows
returns-in_default-third-clause-grows c =
    grows_then c.args.game.now c.beginning.new.game c.ranking.new.game
    (grows_then c.args.game.now c.regions.new.game c.beginning.new.game c.regions.ensures.grows
    c.beginning.ensures.grows) c.ranking.ensures.grows

pub returns-in_default-third-clause-tried : goal.returns-in_default-third-clause-tried
returns-in_default-third-clause-tried c = λ d bs cs is.
    let two = grows_then c.args.game.now c.regions.new.game c.beginning.new.game c.regions.ensures.grows
    c.beginning.ensures.grows in
    tried_then (driver_meaning d (Answers bs) cs) (flat_map (goal_parts cs) (goals_of cs))
    (begins_within ∷ [] ++ (map is_ranked (goals_of cs) ++ is_calm ∷ [])) c.in_ok-third.third
    (subst (AreTried d (Answers bs) cs (flat_map (goal_parts cs) (goals_of cs))) c.in-Accepted.is
    (c.in_ok-first.ensures.tried d bs cs is))
    (tried_then (driver_meaning d (Answers bs) cs) (begins_within ∷ []) (map is_ranked (goals_of cs) ++ is_calm ∷ [])
    c.in_ok-third.third
    (subst (AreTried d (Answers bs) cs (begins_within ∷ [])) c.in-Accepted-second.is
    (c.in_ok-second.ensures.tried d bs cs
    (told_kept d c.args.game.now c.regions.new.game c.regions.ensures.grows bs cs c.args.told.now is)))
    (tried_stop (driver_meaning d (Answers bs) cs) (map is_ranked (goals_of cs)) (is_calm ∷ []) c.in_ok-third.third
    c.in_default-third.not-Accepted
    (c.in_ok-third.ensures.tried d bs cs
    (told_kept d c.args.game.now c.beginning.new.game two bs cs c.args.told.now is))))

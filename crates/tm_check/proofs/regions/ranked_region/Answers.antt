use Rattle.std.proofs.Common.{[], ◌∷◌, subst}
use Rattle.tm_check.specs.Tried.{AreTried}
use Rattle.tm_check.proofs.Keeping.{has_told_kept, told_kept}
use Rattle.tm_check.proofs.regions.ranked_region.Goals as goal
use Rattle.tm_cir.specs.Answer.{Answers}
use Rattle.tm_verdict.specs.Driver.{adds_state, driver_meaning, lies_within}
use Rattle.tm_verdict.proofs.Trying.{tried_stop, tried_then}
use Rattle.tm_game.proofs.Growing.{grows_then}

pub adding-requires-clause-told : goal.adding-requires-clause-told
adding-requires-clause-told c =
    has_told_kept c.args.game.now c.lying.new.game c.lying.ensures.grows c.args.told.now c.requires.told

pub returns-in_err-adding-in-Accepted-clause-grows : goal.returns-in_err-adding-in-Accepted-clause-grows
returns-in_err-adding-in-Accepted-clause-grows c =
    grows_then c.args.game.now c.lying.new.game c.adding.new.game c.lying.ensures.grows c.adding.ensures.grows

pub returns-in_ok-adding-in-Accepted-clause-grows : goal.returns-in_ok-adding-in-Accepted-clause-grows
returns-in_ok-adding-in-Accepted-clause-grows c =
    grows_then c.args.game.now c.lying.new.game c.adding.new.game c.lying.ensures.grows c.adding.ensures.grows

pub returns-in_ok-adding-in-Accepted-clause-tried : goal.returns-in_ok-adding-in-Accepted-clause-tried
returns-in_ok-adding-in-Accepted-clause-tried c = λ d bs cs is.
    tried_then (driver_meaning d (Answers bs) cs) (lies_within c.args.goal c.args.index ∷ [])
    (adds_state c.args.goal c.args.index ∷ [])
    c.in_ok-adding-in-Accepted.adding
    (subst (AreTried d (Answers bs) cs (lies_within c.args.goal c.args.index ∷ [])) c.in-Accepted.is
    (c.in_ok-lying.ensures.tried d bs cs is))
    (c.in_ok-adding-in-Accepted.ensures.tried d bs cs
    (told_kept d c.args.game.now c.lying.new.game c.lying.ensures.grows bs cs c.args.told.now is))

pub returns-in_default-clause-tried : goal.returns-in_default-clause-tried
returns-in_default-clause-tried c = λ d bs cs is.
    tried_stop (driver_meaning d (Answers bs) cs) (lies_within c.args.goal c.args.index ∷ [])
    (adds_state c.args.goal c.args.index ∷ [])
    c.in_ok-lying.lying c.in_default.not-Accepted (c.in_ok-lying.ensures.tried d bs cs is)

use Rattle.std.proofs.Common.{sym, subst}
use Rattle.std.proofs.lemmas.Result.{IfOk-weaker}
use Rattle.tm_envcheck.specs.declared.conditions.LevelCondition.{LevelCondition}
use Rattle.tm_envcheck.specs.Inner.Parts.{Rests, parts_at}
use Rattle.tm_envcheck.specs.Tried.{AreTried}
use Rattle.tm_envcheck.proofs.conditions.try_level.Goals as goal

pub returns-in-Shape-clause-tried : goal.returns-in-Shape-clause-tried
returns-in-Shape-clause-tried c =
    IfOk-weaker c.shape.result _ _
    (λ v tried d of k can tells rests.
    subst (λ (t : LevelCondition). AreTried d of (parts_at t of k) v) (sym c.in-Shape.is) (tried d of k can tells))
    c.shape.ensures.tried

pub returns-in-ForcedOn-clause-tried : goal.returns-in-ForcedOn-clause-tried
returns-in-ForcedOn-clause-tried c =
    IfOk-weaker c.forced_on.result _ _
    (λ v tried d of k can tells rests.
    subst (λ (t : LevelCondition). AreTried d of (parts_at t of k) v) (sym c.in-ForcedOn.is) (tried d of k can tells))
    c.forced_on.ensures.tried

pub returns-in-InChains-clause-tried : goal.returns-in-InChains-clause-tried
returns-in-InChains-clause-tried c =
    IfOk-weaker c.over_chains.result _ _
    (λ v tried d of k can tells rests.
    subst (λ (t : LevelCondition). AreTried d of (parts_at t of k) v) (sym c.in-InChains.is)
    (tried d of k can tells (λ i. tt)))
    c.over_chains.ensures.tried

pub returns-in-ForcedWithin-clause-tried : goal.returns-in-ForcedWithin-clause-tried
returns-in-ForcedWithin-clause-tried c =
    IfOk-weaker c.forced_within.result _ _
    (λ v tried d of k can tells rests.
    subst (λ (t : LevelCondition). AreTried d of (parts_at t of k) v) (sym c.in-ForcedWithin.is)
    (tried d of k can tells))
    c.forced_within.ensures.tried

pub returns-in-WaitsOrFalls-clause-tried : goal.returns-in-WaitsOrFalls-clause-tried
returns-in-WaitsOrFalls-clause-tried c =
    IfOk-weaker c.over_chains-in-WaitsOrFalls.result _ _
    (λ v tried d of k can tells rests.
    subst (λ (t : LevelCondition). AreTried d of (parts_at t of k) v) (sym c.in-WaitsOrFalls.is)
    (tried d of k can tells (subst (λ (t : LevelCondition). Rests d of t k) c.in-WaitsOrFalls.is rests)))
    c.over_chains-in-WaitsOrFalls.ensures.tried

use Rattle.std.proofs.Common.{sym, subst, arith}
use Rattle.std.proofs.lemmas.Result.{IfOk-at_ok, IfOk-weaker}
use Rattle.tm_envcheck.specs.Inner.Over.{AreLevelsOver}
use Rattle.tm_envcheck.specs.Inner.Told.{TellLevels}
use Rattle.tm_envcheck.proofs.Growing.{can_kept, ready_kept}
use Rattle.tm_envcheck.proofs.Verdicts.{certified_lost, told_verdict}
use Rattle.tm_game.proofs.Growing.{grows_then}
use Rattle.tm_sem.proofs.Losing.{certified_is_lost}
use Rattle.tm_verdict.specs.Sets.{levels_of}
use Rattle.tm_envcheck.proofs.check.check_environment.Goals as goal

pub load-requires-clause-levels : goal.load-requires-clause-levels
load-requires-clause-levels c = omega (arith, c.order-order.ensures.levels)

pub try_all-requires-clause-ready : goal.try_all-requires-clause-ready
try_all-requires-clause-ready c =
    ready_kept c.args.game.now c.load.new.game c.load.ensures.grows
    (record { design = c.requires.of; order = c.order-order.ensures.places })

pub try_all-requires-clause-levels : goal.try_all-requires-clause-levels
try_all-requires-clause-levels c =
    subst (AreLevelsOver c.load.new.game) (sym c.deref.ensures.value) c.in_ok-levels.ensures.over

pub returns-clause-grows : goal.returns-clause-grows
returns-clause-grows c = grows_then _ _ _ c.load.ensures.grows c.try_all.ensures.grows

pub returns-clause-verdict : goal.returns-clause-verdict
returns-clause-verdict c =
    IfOk-weaker c.try_all.result _ _
    (λ v tried d can.
    told_verdict d c.args.game.now c.args.cert.now (c.goals-goals.ensures.count d can.of)
    (c.fairs-fairs.ensures.count d can.of) c.requires.cert v
    (tried d (levels_of d c.args.cert.now) (can_kept c.args.game.now c.load.new.game c.load.ensures.grows d can)
    (subst (TellLevels d c.load.new.game (levels_of d c.args.cert.now)) (sym c.deref.ensures.value)
    (c.in_ok-levels.ensures.told d))))
    c.try_all.ensures.tried

pub returns-clause-lost : goal.returns-clause-lost
returns-clause-lost c = λ d can is.
    certified_lost d (levels_of d c.args.cert.now)
    (IfOk-at_ok _ is (returns-clause-verdict c) d can)

pub returns-clause-within : goal.returns-clause-within
returns-clause-within c = λ d can is.
    certified_is_lost d (levels_of d c.args.cert.now)
    (IfOk-at_ok _ is (returns-clause-verdict c) d can)

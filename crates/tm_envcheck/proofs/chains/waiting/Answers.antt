use Rattle.std.proofs.Common.{◌<◌, length, ap, arith}
use Rattle.std.proofs.lemmas.Option.{slice_get_within}
use Rattle.std.proofs.lemmas.Result.{IfOk-weaker}
use Rattle.tm_envcheck.specs.Inner.Over.{chains_in}
use Rattle.tm_envcheck.proofs.ChainParts.{fair_told, waits_tried}
use Rattle.tm_envcheck.proofs.Growing.{ready_kept, sets_kept}
use Rattle.tm_game.proofs.Growing.{grows_then, of_kept, set_kept}
use Rattle.tm_game.proofs.SetTests.{states_set}
use Rattle.tm_sem.specs.Fairness.{IsFair}
use Rattle.tm_envcheck.proofs.chains.waiting.Goals as goal

pub without-requires-clause-b : goal.without-requires-clause-b
without-requires-clause-b c =
    let below : c.args.fair < length c.fairs.result.now =
    omega (
      arith,
      slice_get_within (chains_in c.args.level.now) c.args.fair c.args.chain.now c.requires.chain,
      c.requires.level.fairs,
      ap length c.fairs.ensures.value,
    ) in
    states_set c.requires.ready.design.0 c.args.game.now c.requires.ready.design.1 c.requires.ready.order
    (λ s. IsFair c.requires.ready.design.0 s c.args.fair) _
    (fair_told c.requires.ready.design.0 c.args.game.now c.fairs.result.now c.fairs.ensures.value
    (c.fairs.ensures.states c.requires.ready.design.0 c.requires.ready.design.1) c.args.fair (record { 0 = 0 }) below)

pub stuck-requires-clause-ready : goal.stuck-requires-clause-ready
stuck-requires-clause-ready c = ready_kept c.args.game.now c.without.new.game c.without.ensures.grows c.requires.ready

pub stuck-requires-clause-below : goal.stuck-requires-clause-below
stuck-requires-clause-below c =
    set_kept c.args.game.now c.without.new.game c.without.ensures.grows _ c.requires.level.before

pub stuck-requires-clause-chain : goal.stuck-requires-clause-chain
stuck-requires-clause-chain c =
    sets_kept c.args.game.now c.without.new.game c.without.ensures.grows c.args.chain.now
    (c.requires.level.chains c.args.fair c.args.chain.now c.requires.chain)

pub returns-in_err-failing-clause-grows : goal.returns-in_err-failing-clause-grows
returns-in_err-failing-clause-grows c = grows_then _ _ _ c.without.ensures.grows c.stuck.ensures.grows

pub returns-clause-grows : goal.returns-clause-grows
returns-clause-grows c =
    grows_then _ _ _ c.without.ensures.grows (grows_then _ _ _ c.stuck.ensures.grows c.fails_at.ensures.grows)

pub returns-clause-tried : goal.returns-clause-tried
returns-clause-tried c =
    let below : c.args.fair < length c.fairs.result.now =
    omega (
      arith,
      slice_get_within (chains_in c.args.level.now) c.args.fair c.args.chain.now c.requires.chain,
      c.requires.level.fairs,
      ap length c.fairs.ensures.value,
    ) in
    IfOk-weaker c.fails_at.result _ _
    (λ v verdict d of k can tells rests.
    let still = of_kept c.args.game.now c.without.new.game c.without.ensures.grows d can.of in
    waits_tried d c.args.game.now of k c.args.level.now tells c.args.fair c.args.chain.now c.requires.chain can
    c.requires.level c.requires.ready c.without.new.game c.without.ensures.grows
    (c.requires.level.chains c.args.fair c.args.chain.now c.requires.chain) _ c.in_ok-unmet.unmet
    c.in_ok-failing.failing
    (fair_told d c.args.game.now c.fairs.result.now c.fairs.ensures.value (c.fairs.ensures.states d can.of)
    c.args.fair (record { 0 = 0 }) below)
    c.in_ok-unmet.ensures.value c.stuck.new.game rests (c.in_ok-failing.ensures.value d still)
    (c.in_ok-failing.ensures.settled d still) v
    (verdict d (of_kept c.without.new.game c.stuck.new.game c.stuck.ensures.grows d still)))
    c.fails_at.ensures.verdict

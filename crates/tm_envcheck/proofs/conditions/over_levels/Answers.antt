use Rattle.std.proofs.Common.{length, refl, subst, arith}
use Rattle.std.proofs.lemmas.Option.{slice_get_read}
use Rattle.tm_envcheck.specs.Inner.Parts.{parts_at}
use Rattle.tm_envcheck.specs.Tried.{AreTried}
use Rattle.tm_envcheck.proofs.Growing.{can_kept, over_kept, ready_kept, told_kept}
use Rattle.tm_game.proofs.Growing.{grows_none, grows_then}
use Rattle.tm_verdict.specs.Environment.{level_meaning}
use Rattle.tm_verdict.proofs.Trying.{refused_stops, tried_all, tried_more, tried_none}
use Rattle.tm_envcheck.proofs.conditions.over_levels.Goals as goal

pub loop-level-init : goal.loop-level-init
loop-level-init c = record {
  grows = grows_none c.args.game.now;
  tried = λ d of can tell rests. tried_none (level_meaning d of) (parts_at c.args.tried of) (length of);
}

pub try_level-requires-clause-ready : goal.try_level-requires-clause-ready
try_level-requires-clause-ready c =
    ready_kept c.args.game.now c.loop-level.game c.loop-level.invariant.grows c.requires.ready

pub try_level-requires-clause-level : goal.try_level-requires-clause-level
try_level-requires-clause-level c =
    over_kept c.args.game.now c.loop-level.game c.loop-level.invariant.grows c.level-item.result
    (c.requires.levels c.loop-level.level-index c.level-item.result
    (slice_get_read c.args.levels.now (length c.args.levels.now) c.loop-level.level-index c.level-item.result refl
    c.loop-level-test.true c.level-item.is))

pub returns-in_err-try_level-clause-grows : goal.returns-in_err-try_level-clause-grows
returns-in_err-try_level-clause-grows c = grows_then _ _ _ c.loop-level.invariant.grows c.try_level.ensures.grows

pub returns-in-Refused-clause-grows : goal.returns-in-Refused-clause-grows
returns-in-Refused-clause-grows c = grows_then _ _ _ c.loop-level.invariant.grows c.try_level.ensures.grows

pub returns-in-Refused-clause-tried : goal.returns-in-Refused-clause-tried
returns-in-Refused-clause-tried c = λ d of can tell rests.
    let at = slice_get_read c.args.levels.now (length c.args.levels.now) c.loop-level.level-index c.level-item.result
    refl c.loop-level-test.true c.level-item.is in
    refused_stops (level_meaning d of) (parts_at c.args.tried of) (length of) c.loop-level.level-index
    c.in-Refused.condition c.in-Refused.goal c.in-Refused.state
    (omega (arith, c.loop-level-test.true, tell.count)) (c.loop-level.invariant.tried d of can tell rests)
    (subst (AreTried d of (parts_at c.args.tried of c.loop-level.level-index)) c.in-Refused.is
    (c.in_ok-try_level.ensures.tried d of c.loop-level.level-index
    (can_kept c.args.game.now c.loop-level.game c.loop-level.invariant.grows d can)
    (told_kept c.args.game.now c.loop-level.game c.loop-level.invariant.grows d of c.loop-level.level-index
    c.level-item.result (c.requires.levels c.loop-level.level-index c.level-item.result at)
    (tell.each c.loop-level.level-index c.level-item.result at)) (rests c.loop-level.level-index)))

pub loop-level-preserved : goal.loop-level-preserved
loop-level-preserved c = record {
  grows = grows_then _ _ _ c.loop-level.invariant.grows c.try_level.ensures.grows;
  tried = λ d of can tell rests.
      let at = slice_get_read c.args.levels.now (length c.args.levels.now) c.loop-level.level-index
      c.level-item.result refl c.loop-level-test.true c.level-item.is in
      tried_more (level_meaning d of) (parts_at c.args.tried of) (length of) c.loop-level.level-index
      (omega (arith, c.loop-level-test.true, tell.count)) (c.loop-level.invariant.tried d of can tell rests)
      (subst (AreTried d of (parts_at c.args.tried of c.loop-level.level-index)) c.in-Accepted.is
      (c.in_ok-try_level.ensures.tried d of c.loop-level.level-index
      (can_kept c.args.game.now c.loop-level.game c.loop-level.invariant.grows d can)
      (told_kept c.args.game.now c.loop-level.game c.loop-level.invariant.grows d of c.loop-level.level-index
      c.level-item.result (c.requires.levels c.loop-level.level-index c.level-item.result at)
      (tell.each c.loop-level.level-index c.level-item.result at)) (rests c.loop-level.level-index)));
}

pub returns-clause-tried : goal.returns-clause-tried
returns-clause-tried c = λ d of can tell rests.
    tried_all (level_meaning d of) (parts_at c.args.tried of) (length of) c.loop-level.level-index
    (omega (arith, c.loop-level-test.false, c.loop-level.auto.level-index-end, tell.count))
    (c.loop-level.invariant.tried d of can tell rests)

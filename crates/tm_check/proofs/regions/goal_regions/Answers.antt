use Rattle.std.proofs.Common.{subst, arith}
use Rattle.tm_check.specs.Tried.{AreTried}
use Rattle.tm_check.proofs.Keeping.{has_told_kept, told_kept}
use Rattle.tm_check.proofs.regions.goal_regions.Goals as goal
use Rattle.tm_cir.specs.Answer.{Answers}
use Rattle.tm_check.proofs.Looping.{ranks_are, ranks_of}
use Rattle.tm_verdict.specs.Driver.{driver_meaning, region_parts}
use Rattle.tm_verdict.proofs.Trying.{tried_all, tried_more, tried_none, tried_stops}
use Rattle.tm_game.proofs.Growing.{grows_none, grows_then}

pub loop-index-init : goal.loop-index-init
loop-index-init c = record {
  grows = grows_none c.args.game.now;
  tried = λ d bs cs is.
      tried_none (driver_meaning d (Answers bs) cs) (region_parts c.args.goal) (ranks_of cs c.args.goal);
}

pub ranked_region-requires-clause-told : goal.ranked_region-requires-clause-told
ranked_region-requires-clause-told c =
    has_told_kept c.args.game.now c.loop-index.game c.loop-index.invariant.grows c.args.told.now c.requires.told

pub returns-in_err-verdict-clause-grows : goal.returns-in_err-verdict-clause-grows
returns-in_err-verdict-clause-grows c =
    grows_then c.args.game.now c.loop-index.game c.ranked_region.new.game c.loop-index.invariant.grows
    c.ranked_region.ensures.grows

pub returns-in_default-clause-grows : goal.returns-in_default-clause-grows
returns-in_default-clause-grows c =
    grows_then c.args.game.now c.loop-index.game c.ranked_region.new.game c.loop-index.invariant.grows
    c.ranked_region.ensures.grows

pub returns-in_default-clause-tried : goal.returns-in_default-clause-tried
returns-in_default-clause-tried c = λ d bs cs is.
    let count = ranks_are d bs cs c.args.game.now c.args.told.now is c.args.goal c.requires.goal in
    tried_stops (driver_meaning d (Answers bs) cs) (region_parts c.args.goal) (ranks_of cs c.args.goal)
    c.loop-index.index c.in_ok-verdict.verdict (omega (arith, count, c.rank_count-count.ensures))
    c.in_default.not-Accepted (c.loop-index.invariant.tried d bs cs is)
    (c.in_ok-verdict.ensures.tried d bs cs (told_kept d c.args.game.now c.loop-index.game
    c.loop-index.invariant.grows bs cs c.args.told.now is))

pub loop-index-preserved : goal.loop-index-preserved
loop-index-preserved c = record {
  grows = grows_then c.args.game.now c.loop-index.game c.ranked_region.new.game c.loop-index.invariant.grows
      c.ranked_region.ensures.grows;
  tried = λ d bs cs is.
      let count = ranks_are d bs cs c.args.game.now c.args.told.now is c.args.goal c.requires.goal in
      tried_more (driver_meaning d (Answers bs) cs) (region_parts c.args.goal) (ranks_of cs c.args.goal)
      c.loop-index.index (omega (arith, count, c.rank_count-count.ensures)) (c.loop-index.invariant.tried d bs cs is)
      (subst (AreTried d (Answers bs) cs ((region_parts c.args.goal) c.loop-index.index)) c.in-Accepted.is
      (c.in_ok-verdict.ensures.tried d bs cs (told_kept d c.args.game.now c.loop-index.game
      c.loop-index.invariant.grows bs cs c.args.told.now is)));
}

pub returns-clause-tried : goal.returns-clause-tried
returns-clause-tried c = λ d bs cs is.
    let count = ranks_are d bs cs c.args.game.now c.args.told.now is c.args.goal c.requires.goal in
    tried_all (driver_meaning d (Answers bs) cs) (region_parts c.args.goal) (ranks_of cs c.args.goal) c.loop-index.index
    (omega (arith, count, c.rank_count-count.ensures)) (c.loop-index.invariant.tried d bs cs is)

use Rattle.std.proofs.Common.{◌≡◌, ℕ, length, refl, subst, arith}
use Rattle.std.proofs.lemmas.Option.{slice_get_read}
use Rattle.tm_numbering.specs.Parts.{ArePairs}
use Rattle.tm_numbering.proofs.Growth.{stay_none, stay_then}
use Rattle.tm_numbering.proofs.Pairs.{pairs_more, pairs_none, pairs_weaker}
use Rattle.tm_solve.specs.Iterates.{KnowsLevel}
use Rattle.tm_solve_exact.specs.Exact.{exact_ids}
use Rattle.tm_strat_cert.specs.Inner.Placed.{LevelPlaced}
use Rattle.tm_strat_cert.proofs.Later.{each_at, level_later}
use Rattle.tm_strat_cert.proofs.chains.place_levels.Goals as goal

pub loop-level-init : goal.loop-level-init
loop-level-init c = record {
  numbered = c.requires.numbered;
  stay = stay_none c.args.kept.now.keys;
  pairs = pairs_none (LevelPlaced c.args.kept.now.keys) c.args.levels.now c.new-placed.result.items
      c.new-placed.ensures.items;
}

pub place_level-requires-clause-known : goal.place_level-requires-clause-known
place_level-requires-clause-known c =
    each_at (KnowsLevel (exact_ids c.args.game.now)) c.args.levels.now c.loop-level.level-index c.level-item.result
    c.requires.known
    (slice_get_read c.args.levels.now (length c.args.levels.now) c.loop-level.level-index c.level-item.result refl
    c.loop-level-test.true c.level-item.is)

pub loop-level-preserved : goal.loop-level-preserved
loop-level-preserved c = record {
  numbered = c.in_ok-one.ensures.numbered;
  stay = stay_then c.args.kept.now.keys c.loop-level.kept.keys c.place_level.new.kept.keys c.loop-level.invariant.stay
      c.in_ok-one.ensures.stay;
  pairs = pairs_more (LevelPlaced c.place_level.new.kept.keys) c.args.levels.now c.loop-level.placed.items
      c.push.new.self.items c.loop-level.level-index c.level-item.result c.in_ok-one.one c.in_ok-push.ensures.items
      (slice_get_read c.args.levels.now (length c.args.levels.now) c.loop-level.level-index c.level-item.result refl
      c.loop-level-test.true c.level-item.is)
      c.in_ok-one.ensures.part
      (pairs_weaker (LevelPlaced c.loop-level.kept.keys) (LevelPlaced c.place_level.new.kept.keys) c.args.levels.now
      c.loop-level.placed.items c.loop-level.level-index
      (level_later c.loop-level.kept.keys c.place_level.new.kept.keys c.in_ok-one.ensures.stay)
      c.loop-level.invariant.pairs);
}

pub returns : goal.returns
returns c =
    let all : c.loop-level.level-index ≡ length c.args.levels.now = omega arith in
    record {
      numbered = c.loop-level.invariant.numbered;
      stay = c.loop-level.invariant.stay;
      part = subst
          (λ (n : ℕ). ArePairs (LevelPlaced c.loop-level.kept.keys) c.args.levels.now c.loop-level.placed.items n)
          all c.loop-level.invariant.pairs;
    }

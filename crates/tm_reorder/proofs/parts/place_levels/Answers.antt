use Rattle.std.proofs.Common.{◌≡◌, ℕ, length, refl, subst, arith}
use Rattle.std.proofs.lemmas.Option.{slice_get_read}
use Rattle.tm_numbering.specs.Parts.{ArePairs}
use Rattle.tm_numbering.proofs.Growth.{stay_none, stay_then}
use Rattle.tm_numbering.proofs.Items.{at_index}
use Rattle.tm_numbering.proofs.Pairs.{pairs_more, pairs_none, pairs_weaker}
use Rattle.tm_reorder.specs.Inner.Parts.{AreLevelSets, LevelStands}
use Rattle.tm_reorder.proofs.Parting.{level_later}
use Rattle.tm_reorder.proofs.parts.place_levels.Goals as goal

pub loop-level-init : goal.loop-level-init
loop-level-init c = record {
  entries = c.requires.entries;
  stay = stay_none c.args.kept.now.keys;
  pairs = pairs_none (LevelStands c.args.ids.now c.args.kept.now.keys) c.args.levels.now c.new-placed.result.items
      c.new-placed.ensures.items;
}

pub place_level-requires-clause-sets : goal.place_level-requires-clause-sets
place_level-requires-clause-sets c =
    at_index (AreLevelSets (length c.args.ids.now)) c.args.levels.now c.loop-level.level-index c.level-item.result
    c.requires.sets
    (slice_get_read c.args.levels.now (length c.args.levels.now) c.loop-level.level-index c.level-item.result refl
    c.loop-level-test.true c.level-item.is)

pub loop-level-preserved : goal.loop-level-preserved
loop-level-preserved c =
    let ids = c.args.ids.now in
    let before = c.loop-level.kept.keys in
    let after = c.place_level.new.kept.keys in
    let levels = c.args.levels.now in
    let index = c.loop-level.level-index in
    record {
      entries = c.in_ok-row.ensures.numbered;
      stay = stay_then c.args.kept.now.keys before after c.loop-level.invariant.stay c.in_ok-row.ensures.stay;
      pairs = pairs_more (LevelStands ids after) levels c.loop-level.placed.items c.push.new.self.items index
          c.level-item.result c.in_ok-row.row c.in_ok-push.ensures.items
          (slice_get_read levels (length levels) index c.level-item.result refl c.loop-level-test.true c.level-item.is)
          c.in_ok-row.ensures.part
          (pairs_weaker (LevelStands ids before) (LevelStands ids after) levels c.loop-level.placed.items index
          (level_later ids before after c.in_ok-row.ensures.stay) c.loop-level.invariant.pairs);
    }

pub returns : goal.returns
returns c =
    let all : c.loop-level.level-index ≡ length c.args.levels.now = omega arith in
    record {
      numbered = c.loop-level.invariant.entries;
      stay = c.loop-level.invariant.stay;
      part = subst
          (λ (n : ℕ). ArePairs (LevelStands c.args.ids.now c.loop-level.kept.keys) c.args.levels.now
          c.loop-level.placed.items n)
          all c.loop-level.invariant.pairs;
    }

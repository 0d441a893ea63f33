use Rattle.std.proofs.Common.{◌≡◌, ℕ, ◌<◌, length, get_or, refl, subst, arith}
use Rattle.std.proofs.lemmas.Option.{slice_get-get_or}
use Rattle.tm_cert.specs.declared.cert.Rank.{Rank}
use Rattle.tm_numbering.specs.Parts.{ArePairs}
use Rattle.tm_numbering.proofs.Growth.{stay_none, stay_then}
use Rattle.tm_numbering.proofs.Items.{at_index}
use Rattle.tm_numbering.proofs.Pairs.{pairs_more, pairs_none, pairs_weaker}
use Rattle.tm_reorder.specs.Inner.Parts.{RankStands}
use Rattle.tm_reorder.proofs.Parting.{rank_later}
use Rattle.tm_reorder.proofs.parts.place_ranks.Goals as goal

pub loop-rank-init : goal.loop-rank-init
loop-rank-init c = record {
  entries = c.requires.entries;
  stay = stay_none c.args.kept.now.keys;
  pairs = pairs_none (RankStands c.args.ids.now c.args.kept.now.keys) c.args.ranks.now c.new-placed.result.items
      c.new-placed.ensures.items;
}

pub place-requires-clause-set : goal.place-requires-clause-set
place-requires-clause-set c =
    at_index (λ (r : Rank). r.set < length c.args.ids.now) c.args.ranks.now c.loop-rank.rank-index _ c.requires.sets
    (slice_get-get_or c.args.ranks.now c.loop-rank.rank-index (record { fair = 0; set = 0 }) c.loop-rank-test.true)

pub loop-rank-preserved : goal.loop-rank-preserved
loop-rank-preserved c =
    let ids = c.args.ids.now in
    let before = c.loop-rank.kept.keys in
    let after = c.place.new.kept.keys in
    let ranks = c.args.ranks.now in
    let index = c.loop-rank.rank-index in
    let rank = get_or ranks index (record { fair = 0; set = 0 }) in
    record {
      entries = c.in_ok-set.ensures.numbered;
      stay = stay_then c.args.kept.now.keys before after c.loop-rank.invariant.stay c.in_ok-set.ensures.stay;
      pairs = pairs_more (RankStands ids after) ranks c.loop-rank.placed.items c.push.new.self.items index rank
          (record { fair = rank.fair; set = c.in_ok-set.set }) c.in_ok-push.ensures.items
          (slice_get-get_or ranks index (record { fair = 0; set = 0 }) c.loop-rank-test.true)
          (refl, c.in_ok-set.ensures.part)
          (pairs_weaker (RankStands ids before) (RankStands ids after) ranks c.loop-rank.placed.items index
          (rank_later ids before after c.in_ok-set.ensures.stay) c.loop-rank.invariant.pairs);
    }

pub returns : goal.returns
returns c =
    let all : c.loop-rank.rank-index ≡ length c.args.ranks.now = omega arith in
    record {
      numbered = c.loop-rank.invariant.entries;
      stay = c.loop-rank.invariant.stay;
      part = subst
          (λ (n : ℕ). ArePairs (RankStands c.args.ids.now c.loop-rank.kept.keys) c.args.ranks.now
          c.loop-rank.placed.items n)
          all c.loop-rank.invariant.pairs;
    }

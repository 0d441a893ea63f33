use Rattle.std.proofs.Common.{◌≡◌, ℕ, length, refl, subst, arith}
use Rattle.std.proofs.lemmas.Option.{slice_get-get_or}
use Rattle.tm_numbering.specs.Parts.{ArePairs}
use Rattle.tm_numbering.proofs.Growth.{stay_none, stay_then}
use Rattle.tm_numbering.proofs.Pairs.{pairs_more, pairs_none, pairs_weaker}
use Rattle.tm_solve.specs.declared.iterates.RankSet.{RankSet}
use Rattle.tm_solve_exact.specs.Exact.{IsStateSet}
use Rattle.tm_strat_cert.specs.Inner.Placed.{RankPlaced}
use Rattle.tm_strat_cert.proofs.Later.{each_at, rank_later}
use Rattle.tm_strat_cert.proofs.ranks.place_ranks.Goals as goal

pub loop-rank-init : goal.loop-rank-init
loop-rank-init c = record {
  numbered = c.requires.numbered;
  stay = stay_none c.args.kept.now.keys;
  pairs = pairs_none (RankPlaced c.args.kept.now.keys) c.args.sets.now c.new-ranks.result.items
      c.new-ranks.ensures.items;
}

pub place-requires-clause-set : goal.place-requires-clause-set
place-requires-clause-set c =
    each_at (λ (r : RankSet). IsStateSet c.args.game.now r.set) c.args.sets.now c.loop-rank.rank-index _
    c.requires.known
    (slice_get-get_or c.args.sets.now c.loop-rank.rank-index (record { fair = 0; set = record { 0 = 0 } })
    c.loop-rank-test.true)

pub loop-rank-preserved : goal.loop-rank-preserved
loop-rank-preserved c = record {
  numbered = c.in_ok-set.ensures.numbered;
  stay = stay_then c.args.kept.now.keys c.loop-rank.kept.keys c.place.new.kept.keys c.loop-rank.invariant.stay
      c.in_ok-set.ensures.stay;
  pairs = pairs_more (RankPlaced c.place.new.kept.keys) c.args.sets.now c.loop-rank.ranks.items c.push.new.self.items
      c.loop-rank.rank-index _ _ c.in_ok-push.ensures.items
      (slice_get-get_or c.args.sets.now c.loop-rank.rank-index (record { fair = 0; set = record { 0 = 0 } })
      c.loop-rank-test.true)
      (refl, c.in_ok-set.ensures.part)
      (pairs_weaker (RankPlaced c.loop-rank.kept.keys) (RankPlaced c.place.new.kept.keys) c.args.sets.now
      c.loop-rank.ranks.items c.loop-rank.rank-index
      (rank_later c.loop-rank.kept.keys c.place.new.kept.keys c.in_ok-set.ensures.stay)
      c.loop-rank.invariant.pairs);
}

pub returns : goal.returns
returns c =
    let all : c.loop-rank.rank-index ≡ length c.args.sets.now = omega arith in
    record {
      numbered = c.loop-rank.invariant.numbered;
      stay = c.loop-rank.invariant.stay;
      part = subst
          (λ (n : ℕ). ArePairs (RankPlaced c.loop-rank.kept.keys) c.args.sets.now c.loop-rank.ranks.items n)
          all c.loop-rank.invariant.pairs;
    }

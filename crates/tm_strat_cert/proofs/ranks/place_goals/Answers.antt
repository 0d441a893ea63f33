use Rattle.std.proofs.Common.{◌≡◌, ℕ, Global, List, Vec, length, map, refl, sym, ap, ◌∙◌, subst, arith}
use Rattle.std.proofs.lemmas.Option.{slice_get_read}
use Rattle.tm_cert.specs.declared.cert.Rank.{Rank}
use Rattle.tm_numbering.specs.Parts.{ArePairs}
use Rattle.tm_numbering.proofs.Growth.{stay_none, stay_then}
use Rattle.tm_numbering.proofs.Items.{map_more}
use Rattle.tm_numbering.proofs.Pairs.{pairs_more, pairs_none, pairs_weaker}
use Rattle.tm_solve.specs.declared.iterates.RankSet.{RankSet}
use Rattle.tm_solve.specs.declared.iterates.Ranking.{Ranking}
use Rattle.tm_solve.specs.Iterates.{KnowsRanks}
use Rattle.tm_solve_exact.specs.Exact.{exact_ids}
use Rattle.tm_strat_cert.specs.Inner.Placed.{RanksPlaced}
use Rattle.tm_strat_cert.proofs.Later.{each_at, ranks_later}
use Rattle.tm_strat_cert.proofs.ranks.place_goals.Goals as goal

pub loop-ranking-init : goal.loop-ranking-init
loop-ranking-init c = record {
  numbered = c.requires.numbered;
  stay = stay_none c.args.kept.now.keys;
  pairs = pairs_none (λ (r : Ranking) (ranks : List Rank). RanksPlaced c.args.kept.now.keys r.sets.items ranks)
      c.args.rankings.now (map (λ (v : Vec Rank Global). v.items) c.new-goals.result.items)
      (ap (map (λ (v : Vec Rank Global). v.items)) c.new-goals.ensures.items);
}

pub place_ranks-requires-clause-known : goal.place_ranks-requires-clause-known
place_ranks-requires-clause-known c =
    subst (KnowsRanks (exact_ids c.args.game.now)) (sym c.as_slice.ensures.value)
    (each_at (λ (r : Ranking). KnowsRanks (exact_ids c.args.game.now) r.sets.items) c.args.rankings.now
    c.loop-ranking.ranking-index c.ranking-item.result c.requires.known
    (slice_get_read c.args.rankings.now (length c.args.rankings.now) c.loop-ranking.ranking-index
    c.ranking-item.result refl c.loop-ranking-test.true c.ranking-item.is))

pub loop-ranking-preserved : goal.loop-ranking-preserved
loop-ranking-preserved c = record {
  numbered = c.in_ok-ranks.ensures.numbered;
  stay = stay_then c.args.kept.now.keys c.loop-ranking.kept.keys c.place_ranks.new.kept.keys
      c.loop-ranking.invariant.stay c.in_ok-ranks.ensures.stay;
  pairs = pairs_more (λ (r : Ranking) (ranks : List Rank). RanksPlaced c.place_ranks.new.kept.keys r.sets.items ranks)
      c.args.rankings.now (map (λ (v : Vec Rank Global). v.items) c.loop-ranking.goals.items)
      (map (λ (v : Vec Rank Global). v.items) c.push.new.self.items) c.loop-ranking.ranking-index
      c.ranking-item.result c.in_ok-ranks.ranks.items
      (ap (map (λ (v : Vec Rank Global). v.items)) c.in_ok-push.ensures.items
      ∙ map_more (λ (v : Vec Rank Global). v.items) c.loop-ranking.goals.items c.in_ok-ranks.ranks)
      (slice_get_read c.args.rankings.now (length c.args.rankings.now) c.loop-ranking.ranking-index
      c.ranking-item.result refl c.loop-ranking-test.true c.ranking-item.is)
      (subst (λ (xs : List RankSet). RanksPlaced c.place_ranks.new.kept.keys xs c.in_ok-ranks.ranks.items)
      c.as_slice.ensures.value c.in_ok-ranks.ensures.part)
      (pairs_weaker (λ (r : Ranking) (ranks : List Rank). RanksPlaced c.loop-ranking.kept.keys r.sets.items ranks)
      (λ (r : Ranking) (ranks : List Rank). RanksPlaced c.place_ranks.new.kept.keys r.sets.items ranks)
      c.args.rankings.now (map (λ (v : Vec Rank Global). v.items) c.loop-ranking.goals.items)
      c.loop-ranking.ranking-index
      (ranks_later c.loop-ranking.kept.keys c.place_ranks.new.kept.keys c.in_ok-ranks.ensures.stay)
      c.loop-ranking.invariant.pairs);
}

pub returns : goal.returns
returns c =
    let all : c.loop-ranking.ranking-index ≡ length c.args.rankings.now = omega arith in
    record {
      numbered = c.loop-ranking.invariant.numbered;
      stay = c.loop-ranking.invariant.stay;
      part = subst
          (λ (n : ℕ). ArePairs
          (λ (r : Ranking) (ranks : List Rank). RanksPlaced c.loop-ranking.kept.keys r.sets.items ranks)
          c.args.rankings.now (map (λ (v : Vec Rank Global). v.items) c.loop-ranking.goals.items) n)
          all c.loop-ranking.invariant.pairs;
    }

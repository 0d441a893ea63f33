use Rattle.std.specs.Prelude.{List, map}
use Rattle.tm_cert.specs.declared.cert.Rank.{Rank}
use Rattle.tm_numbering.specs.Numbers.{Stay}
use Rattle.tm_numbering.specs.Parts.{ArePairs}
use Rattle.tm_solve.specs.declared.iterates.Ranking.{Ranking}
use Rattle.tm_strat_cert.specs.Inner.Placed.{IsNumbering, RanksPlaced}
use Rattle.tm_strat_cert.proofs.ranks.place_goals.Given as goal

abbrev pub invariant-loop-ranking : goal.invariant-loop-ranking
invariant-loop-ranking l = record {
  numbered : IsNumbering l.game l.kept.keys l.nodes.items;
  stay : Stay l.fn.kept.keys l.kept.keys;
  pairs : ArePairs (λ (r : Ranking) (ranks : List Rank). RanksPlaced l.kept.keys r.sets.items ranks) l.rankings
      (map (λ ranks. ranks.items) l.goals.items) l.ranking-index;
}

use Rattle.tm_numbering.specs.Numbers.{Stay}
use Rattle.tm_numbering.specs.Parts.{ArePairs}
use Rattle.tm_strat_cert.specs.Inner.Placed.{IsNumbering, RankPlaced}
use Rattle.tm_strat_cert.proofs.ranks.place_ranks.Given as goal

abbrev pub invariant-loop-rank : goal.invariant-loop-rank
invariant-loop-rank l = record {
  numbered : IsNumbering l.game l.kept.keys l.nodes.items;
  stay : Stay l.fn.kept.keys l.kept.keys;
  pairs : ArePairs (RankPlaced l.kept.keys) l.sets l.ranks.items l.rank-index;
}

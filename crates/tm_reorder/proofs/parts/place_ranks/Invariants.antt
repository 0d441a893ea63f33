use Rattle.tm_numbering.specs.Numbers.{Stay}
use Rattle.tm_numbering.specs.Parts.{ArePairs}
use Rattle.tm_reorder.specs.Inner.Parts.{AreEntries, RankStands}
use Rattle.tm_reorder.proofs.parts.place_ranks.Given as goal

abbrev pub invariant-loop-rank : goal.invariant-loop-rank
invariant-loop-rank l = record {
  entries : AreEntries l.store l.kept.keys l.nodes.items;
  stay : Stay l.fn.kept.keys l.kept.keys;
  pairs : ArePairs (RankStands l.ids l.kept.keys) l.ranks l.placed.items l.rank-index;
}

use Rattle.std.specs.Prelude.{map}
use Rattle.tm_numbering.specs.Numbers.{Stay}
use Rattle.tm_numbering.specs.Parts.{ArePairs}
use Rattle.tm_reorder.specs.Inner.Parts.{AreEntries, RanksStand}
use Rattle.tm_reorder.proofs.parts.place_goals.Given as goal

abbrev pub invariant-loop-ranks : goal.invariant-loop-ranks
invariant-loop-ranks l = record {
  entries : AreEntries l.store l.kept.keys l.nodes.items;
  stay : Stay l.fn.kept.keys l.kept.keys;
  pairs : ArePairs (RanksStand l.ids l.kept.keys) (map (λ row. row.items) l.goals)
      (map (λ row. row.items) l.placed.items) l.ranks-index;
}

use Rattle.tm_numbering.specs.Numbers.{Stay}
use Rattle.tm_numbering.specs.Parts.{ArePairs}
use Rattle.tm_reorder.specs.Inner.Parts.{AreEntries, Stands}
use Rattle.tm_reorder.proofs.parts.place_chain.Given as goal

abbrev pub invariant-loop-set : goal.invariant-loop-set
invariant-loop-set l = record {
  entries : AreEntries l.store l.kept.keys l.nodes.items;
  stay : Stay l.fn.kept.keys l.kept.keys;
  pairs : ArePairs (Stands l.ids l.kept.keys) l.chain l.placed.items l.set-index;
}

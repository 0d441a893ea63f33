use Rattle.std.specs.Prelude.{map}
use Rattle.tm_numbering.specs.Numbers.{Stay}
use Rattle.tm_numbering.specs.Parts.{ArePairs}
use Rattle.tm_reorder.specs.Inner.Parts.{AreEntries, ChainStands}
use Rattle.tm_reorder.proofs.parts.place_chains.Given as goal

abbrev pub invariant-loop-chain : goal.invariant-loop-chain
invariant-loop-chain l = record {
  entries : AreEntries l.store l.kept.keys l.nodes.items;
  stay : Stay l.fn.kept.keys l.kept.keys;
  pairs : ArePairs (ChainStands l.ids l.kept.keys) (map (λ row. row.items) l.chains)
      (map (λ row. row.items) l.placed.items) l.chain-index;
}

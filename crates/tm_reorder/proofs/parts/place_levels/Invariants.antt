use Rattle.tm_numbering.specs.Numbers.{Stay}
use Rattle.tm_numbering.specs.Parts.{ArePairs}
use Rattle.tm_reorder.specs.Inner.Parts.{AreEntries, LevelStands}
use Rattle.tm_reorder.proofs.parts.place_levels.Given as goal

abbrev pub invariant-loop-level : goal.invariant-loop-level
invariant-loop-level l = record {
  entries : AreEntries l.store l.kept.keys l.nodes.items;
  stay : Stay l.fn.kept.keys l.kept.keys;
  pairs : ArePairs (LevelStands l.ids l.kept.keys) l.levels l.placed.items l.level-index;
}

use Rattle.tm_numbering.specs.Numbers.{Stay}
use Rattle.tm_numbering.specs.Parts.{ArePairs}
use Rattle.tm_strat_cert.specs.Inner.Placed.{IsNumbering, LevelPlaced}
use Rattle.tm_strat_cert.proofs.chains.place_levels.Given as goal

abbrev pub invariant-loop-level : goal.invariant-loop-level
invariant-loop-level l = record {
  numbered : IsNumbering l.game l.kept.keys l.nodes.items;
  stay : Stay l.fn.kept.keys l.kept.keys;
  pairs : ArePairs (LevelPlaced l.kept.keys) l.levels l.placed.items l.level-index;
}

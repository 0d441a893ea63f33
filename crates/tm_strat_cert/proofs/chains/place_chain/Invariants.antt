use Rattle.tm_numbering.specs.Numbers.{HasNumber, Stay}
use Rattle.tm_numbering.specs.Parts.{ArePairs}
use Rattle.tm_strat_cert.specs.Inner.Placed.{IsNumbering}
use Rattle.tm_strat_cert.proofs.chains.place_chain.Given as goal

abbrev pub invariant-loop-set : goal.invariant-loop-set
invariant-loop-set l = record {
  numbered : IsNumbering l.game l.kept.keys l.nodes.items;
  stay : Stay l.fn.kept.keys l.kept.keys;
  pairs : ArePairs (HasNumber l.kept.keys) l.sets l.placed.items l.set-index;
}

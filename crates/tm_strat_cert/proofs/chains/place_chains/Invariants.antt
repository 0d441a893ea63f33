use Rattle.std.specs.Prelude.{ℕ, List, map}
use Rattle.tm_numbering.specs.Numbers.{Stay}
use Rattle.tm_numbering.specs.Parts.{ArePairs}
use Rattle.tm_solve.specs.declared.iterates.Chain.{Chain}
use Rattle.tm_strat_cert.specs.Inner.Placed.{IsNumbering, SetsPlaced}
use Rattle.tm_strat_cert.proofs.chains.place_chains.Given as goal

abbrev pub invariant-loop-chain : goal.invariant-loop-chain
invariant-loop-chain l = record {
  numbered : IsNumbering l.game l.kept.keys l.nodes.items;
  stay : Stay l.fn.kept.keys l.kept.keys;
  pairs : ArePairs (λ (c : Chain) (sets : List ℕ). SetsPlaced l.kept.keys c.sets.items sets) l.chains
      (map (λ sets. sets.items) l.placed.items) l.chain-index;
}

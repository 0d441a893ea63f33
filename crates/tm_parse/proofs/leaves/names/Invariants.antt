use Rattle.std.proofs.Common.{◌<◌, length}
use Rattle.tm_syntax.specs.Grammar.Parts.{IsName}
use Rattle.tm_parse.specs.Reading.{Nothing}
use Rattle.tm_parse.proofs.Lists.{SoFar}
use Rattle.tm_parse.proofs.leaves.names.Given as goal

abbrev pub invariant-loop-behind : goal.invariant-loop-behind
invariant-loop-behind l = record {
  so_far : SoFar l.by (λ _. IsName l.text) Nothing l.names.items l.tokens l.rest;
  shorter : length l.rest < length l.tokens;
}

abbrev pub decreases-loop-behind : goal.decreases-loop-behind
decreases-loop-behind l = length l.rest

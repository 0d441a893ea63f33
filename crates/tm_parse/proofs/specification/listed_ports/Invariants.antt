use Rattle.std.proofs.Common.{◌<◌, length}
use Rattle.tm_syntax.specs.declared.token.Sign.TheVariants as sign
use Rattle.tm_syntax.specs.Grammar.Specification.{IsPort}
use Rattle.tm_parse.specs.Reading.{Nothing}
use Rattle.tm_parse.proofs.Lists.{SoFar}
use Rattle.tm_parse.proofs.specification.listed_ports.Given as goal

abbrev pub invariant-loop-behind : goal.invariant-loop-behind
invariant-loop-behind l = record {
  so_far : SoFar sign.Comma (λ _. IsPort l.text) Nothing l.ports.items l.tokens l.rest;
  shorter : length l.rest < length l.tokens;
}

abbrev pub decreases-loop-behind : goal.decreases-loop-behind
decreases-loop-behind l = length l.rest

use Rattle.std.proofs.Common.{◌<◌, length}
use Rattle.tm_syntax.specs.declared.token.Sign.TheVariants as sign
use Rattle.tm_syntax.specs.Grammar.Declarations.{IsParam}
use Rattle.tm_parse.specs.Reading.{Nothing}
use Rattle.tm_parse.proofs.Lists.{SoFar}
use Rattle.tm_parse.proofs.declarations.listed_params.Given as goal

abbrev pub invariant-loop-behind : goal.invariant-loop-behind
invariant-loop-behind l = record {
  so_far : SoFar sign.Comma (λ _. IsParam l.text) Nothing l.params.items l.tokens l.rest;
  shorter : length l.rest < length l.tokens;
}

abbrev pub decreases-loop-behind : goal.decreases-loop-behind
decreases-loop-behind l = length l.rest

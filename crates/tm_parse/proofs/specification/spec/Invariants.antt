use Rattle.std.proofs.Common.{length}
use Rattle.tm_syntax.specs.Tree.View.{spec_tree}
use Rattle.tm_parse.proofs.Wholes.{SpecSoFar}
use Rattle.tm_parse.proofs.specification.spec.Given as goal

abbrev pub invariant-loop-rest : goal.invariant-loop-rest
invariant-loop-rest l = SpecSoFar l.text (spec_tree l.spec) l.tokens l.rest

abbrev pub decreases-loop-rest : goal.decreases-loop-rest
decreases-loop-rest l = length l.rest

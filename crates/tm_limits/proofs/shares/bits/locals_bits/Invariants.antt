use Rattle.std.proofs.Common.{◌≡◌, map, take}
use Rattle.tm_syntax.specs.Tree.View.{local_tree, spec_tree}
use Rattle.tm_syntax.specs.Counts.Bodies.{local_bits}
use Rattle.tm_limits.specs.Amount.{capped}
use Rattle.tm_limits.proofs.shares.bits.locals_bits.Given as goal

abbrev pub invariant-loop-local : goal.invariant-loop-local
invariant-loop-local l =
    l.bits ≡ capped (local_bits (spec_tree l.scopes) (map local_tree (take l.local-index l.locals)))

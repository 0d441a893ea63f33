use Rattle.std.proofs.Common.{◌≡◌, ℕ, List, position, nat_eq, take}
use Rattle.std.specs.Cmp.Lexicographic.{pointwise}
use Rattle.tm_scope.specs.Directory.{index_of}
use Rattle.tm_scope.proofs.names.directory.Directory.of.Given as goal

abbrev pub invariant-loop-index : goal.invariant-loop-index
invariant-loop-index g l =
    (name : List ℕ) →
    index_of l.directory name ≡ position (λ x. pointwise nat_eq name (g.T.HasName.name x)) (take l.index l.items)

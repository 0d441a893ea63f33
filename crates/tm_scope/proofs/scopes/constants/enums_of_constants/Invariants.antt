use Rattle.std.proofs.Common.{◌≡◌, ℕ, List, position, take}
use Rattle.std.specs.List.{list_any}
use Rattle.tm_syntax.specs.Scopes.Names.{is_spelled}
use Rattle.tm_scope.specs.Directory.{index_of}
use Rattle.tm_scope.proofs.scopes.constants.enums_of_constants.Given as goal

abbrev pub invariant-loop-index : goal.invariant-loop-index
invariant-loop-index l =
    (name : List ℕ) →
    index_of l.directory name ≡ position (λ e. list_any (is_spelled name) e.constants.items) (take l.index l.enums)

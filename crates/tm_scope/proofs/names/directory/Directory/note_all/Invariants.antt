use Rattle.std.proofs.Common.{◌≡◌, ℕ, List, None, Some, take, if◌then◌else◌}
use Rattle.std.specs.Option.{option_or}
use Rattle.std.specs.List.{list_any}
use Rattle.tm_syntax.specs.Scopes.Names.{is_spelled}
use Rattle.tm_scope.specs.Directory.{index_of}
use Rattle.tm_scope.proofs.names.directory.Directory.note_all.Given as goal

abbrev pub invariant-loop-name : goal.invariant-loop-name
invariant-loop-name l =
    (other : List ℕ) →
    index_of l.self other
    ≡ option_or (index_of l.initial.self other)
    (if list_any (is_spelled other) (take l.name-index l.names) then Some l.index else None)

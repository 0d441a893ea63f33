use Rattle.std.proofs.Common.{◌≡◌}
use Rattle.tm_syntax.specs.Tree.View.{local_tree}
use Rattle.tm_scope.specs.Marks.{is_marked}
use Rattle.tm_types.specs.Inner.Crossings.{pausing_local}
use Rattle.tm_types.proofs.FoundPlaces.{found_before}
use Rattle.tm_types.proofs.crossings.locations.locals_location.Given as goal

abbrev pub invariant-loop-local : goal.invariant-loop-local
invariant-loop-local l =
    l.first ≡ found_before (pausing_local (is_marked l.calls)) local_tree l.locals l.local-index

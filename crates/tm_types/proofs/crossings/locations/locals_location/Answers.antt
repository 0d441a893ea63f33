use Rattle.std.proofs.Common.{arith}
use Rattle.tm_syntax.specs.Tree.View.{local_tree}
use Rattle.tm_scope.specs.Marks.{is_marked}
use Rattle.tm_types.specs.Inner.Crossings.{pausing_local}
use Rattle.tm_types.proofs.FoundPlaces.{found_all, found_more}
use Rattle.tm_types.proofs.crossings.locations.locals_location.Goals as goal

pub loop-local-preserved : goal.loop-local-preserved
loop-local-preserved c =
    found_more (pausing_local (is_marked c.args.calls.now)) local_tree c.args.locals.now c.loop-local.local-index
    c.local-item.result (omega arith) c.local-item.is c.local_location.ensures c.earlier_place-first.ensures.earlier
    c.loop-local.invariant

pub returns : goal.returns
returns c =
    found_all (pausing_local (is_marked c.args.calls.now)) local_tree c.args.locals.now c.loop-local.local-index
    (omega arith) c.loop-local.invariant

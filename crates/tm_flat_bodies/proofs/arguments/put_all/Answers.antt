use Rattle.std.proofs.Common.{arith}
use Rattle.std.proofs.lemmas.Option.{slice_get-get_or}
use Rattle.tm_flat_bodies.proofs.Passed.{puts_all, puts_begin, puts_more}
use Rattle.tm_flat_bodies.proofs.arguments.put_all.Goals as goal

pub loop-index-init : goal.loop-index-init
loop-index-init c = puts_begin c.args.at c.args.cells.now c.args.values.now c.args.flow

pub loop-index-preserved : goal.loop-index-preserved
loop-index-preserved c =
    puts_more c.args.at c.args.cells.now c.args.values.now c.args.flow c.loop-index.index c.loop-index.goes
    c.loop-index.invariant _ _ _
    (slice_get-get_or c.args.cells.now c.loop-index.index _ (omega arith))
    (slice_get-get_or c.args.values.now c.loop-index.index _ (omega (arith, c.requires)))
    c.in_ok-goes.ensures

pub returns : goal.returns
returns c =
    puts_all c.args.at c.args.cells.now c.args.values.now c.args.flow c.loop-index.index c.loop-index.goes
    c.loop-index.invariant (omega arith) c.requires

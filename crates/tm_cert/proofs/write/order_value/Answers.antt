use Rattle.tm_cert.specs.Written.{number_data}
use Rattle.tm_cert.proofs.Writing.{written_all, written_more}
use Rattle.tm_cert.proofs.write.order_value.Goals as goal

pub loop-place-preserved : goal.loop-place-preserved
loop-place-preserved c =
    written_more number_data c.args.order.now c.loop-place.place-index _ c.loop-place.items.items _ _
    c.loop-place.invariant c.loop-place-test.true c.from.ensures c.in_ok-push.ensures.items

pub returns : goal.returns
returns c =
    written_all number_data c.args.order.now c.loop-place.place-index c.loop-place.items c.loop-place.invariant
    c.loop-place-test.false

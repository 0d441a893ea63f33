use Rattle.tm_cert.specs.Order.{place_at}
use Rattle.tm_cert.specs.Path.{path_text}
use Rattle.tm_cert.proofs.Judging.{each-found, each-refused}
use Rattle.tm_cert.proofs.order.read_places.Goals as goal

pub loop-value-preserved : goal.loop-value-preserved
loop-value-preserved c =
    let judge = place_at (path_text c.args.path.now) c.args.bits in
    let place = c.in-Ok.ensures.ok in
    each-found judge _ _ _ c.args.places.now c.loop-value.value-index c.value-item.result place.0
    c.loop-value.invariant c.loop-value-test.true c.value-item.is place.1 place.2

pub returns-in-Err-clause-refused : goal.returns-in-Err-clause-refused
returns-in-Err-clause-refused c =
    each-refused (place_at (path_text c.args.path.now) c.args.bits) _ _ c.args.places.now
    c.loop-value.value-index c.value-item.result _ c.loop-value.invariant
    c.loop-value-test.true c.value-item.is c.in-Err.ensures.refused

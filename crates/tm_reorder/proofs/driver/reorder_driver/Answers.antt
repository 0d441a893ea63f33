use Rattle.std.proofs.Common.{length}
use Rattle.std.proofs.lemmas.Result.{IfOk-weaker}
use Rattle.tm_reorder.proofs.Agreed.{drivers_same}
use Rattle.tm_reorder.proofs.Reordered.{driver_fits, ranks_counted}
use Rattle.tm_reorder.proofs.Within.{no_places}
use Rattle.tm_reorder.proofs.driver.reorder_driver.Goals as goal

pub move_driver-requires-clause-places : goal.move_driver-requires-clause-places
move_driver-requires-clause-places c = no_places (length c.args.order.now)

pub returns-clause-order : goal.returns-clause-order
returns-clause-order c = IfOk-weaker c.move_driver.result _ _ (λ moved m. m.2.order) c.move_driver.ensures

pub returns-clause-sets : goal.returns-clause-sets
returns-clause-sets c =
    IfOk-weaker c.move_driver.result _ _
    (λ moved m d. drivers_same d c.args.order.now c.requires.order m.0 c.requires.fits.0 c.requires.fits.1
    c.args.cert.now moved c.requires.fits.2 m.2 m.1)
    c.move_driver.ensures

pub returns-clause-ranks : goal.returns-clause-ranks
returns-clause-ranks c =
    IfOk-weaker c.move_driver.result _ _
    (λ moved m. ranks_counted c.args.order.now c.requires.order m.0 c.args.cert.now moved m.2) c.move_driver.ensures

pub returns-clause-fits : goal.returns-clause-fits
returns-clause-fits c =
    IfOk-weaker c.move_driver.result _ _
    (λ moved m. driver_fits c.args.order.now c.requires.order m.0 c.args.cert.now moved m.2) c.move_driver.ensures

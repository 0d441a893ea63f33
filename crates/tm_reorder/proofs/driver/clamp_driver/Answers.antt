use Rattle.std.proofs.Common.{length, ap, sym, ◌∙◌}
use Rattle.std.specs.Prelude.{sum}
use Rattle.std.proofs.lemmas.Result.{IfOk-weaker}
use Rattle.tm_reorder.proofs.Agreed.{drivers_agree}
use Rattle.tm_reorder.proofs.Reordered.{driver_fits, ranks_counted}
use Rattle.tm_reorder.proofs.Within.{have_places}
use Rattle.tm_reorder.proofs.driver.clamp_driver.Goals as goal

pub move_driver-requires-clause-places : goal.move_driver-requires-clause-places
move_driver-requires-clause-places c =
    have_places c.requires.fields.0 c.args.fields.now c.requires.fields.1 (length c.args.order.now) c.requires.fields.2

pub returns-clause-order : goal.returns-clause-order
returns-clause-order c = IfOk-weaker c.move_driver.result _ _ (λ moved m. m.2.order) c.move_driver.ensures

pub returns-clause-sets : goal.returns-clause-sets
returns-clause-sets c =
    IfOk-weaker c.move_driver.result _ _
    (λ moved m d are. drivers_agree d c.args.order.now c.requires.order m.0 c.requires.fits.0 c.requires.fits.1
    c.args.cert.now moved c.requires.fits.2 m.2 c.args.fields.now are
    (ap sum (sym are.widths ∙ c.requires.fields.1.widths) ∙ c.requires.fields.2) m.1)
    c.move_driver.ensures

pub returns-clause-ranks : goal.returns-clause-ranks
returns-clause-ranks c =
    IfOk-weaker c.move_driver.result _ _
    (λ moved m. ranks_counted c.args.order.now c.requires.order m.0 c.args.cert.now moved m.2) c.move_driver.ensures

pub returns-clause-fits : goal.returns-clause-fits
returns-clause-fits c =
    IfOk-weaker c.move_driver.result _ _
    (λ moved m. driver_fits c.args.order.now c.requires.order m.0 c.args.cert.now moved m.2) c.move_driver.ensures

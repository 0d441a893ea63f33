use Rattle.std.proofs.Common.{length}
use Rattle.std.proofs.lemmas.Result.{IfOk-weaker}
use Rattle.tm_reorder.proofs.Agreed.{levels_same}
use Rattle.tm_reorder.proofs.Reordered.{environment_fits}
use Rattle.tm_reorder.proofs.Within.{no_places}
use Rattle.tm_reorder.proofs.environment.reorder_environment.Goals as goal

pub move_environment-requires-clause-places : goal.move_environment-requires-clause-places
move_environment-requires-clause-places c = no_places (length c.args.order.now)

pub returns-clause-order : goal.returns-clause-order
returns-clause-order c = IfOk-weaker c.move_environment.result _ _ (λ moved m. m.2.order) c.move_environment.ensures

pub returns-clause-sets : goal.returns-clause-sets
returns-clause-sets c =
    IfOk-weaker c.move_environment.result _ _
    (λ moved m d. levels_same d c.args.order.now c.requires.order m.0 c.requires.fits.0 c.requires.fits.1
    c.args.cert.now moved c.requires.fits.2 m.2 m.1)
    c.move_environment.ensures

pub returns-clause-fits : goal.returns-clause-fits
returns-clause-fits c =
    IfOk-weaker c.move_environment.result _ _
    (λ moved m. environment_fits c.args.order.now c.requires.order m.0 c.args.cert.now moved m.2)
    c.move_environment.ensures

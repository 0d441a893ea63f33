use Rattle.std.proofs.Common.{length, ap, sym, ◌∙◌}
use Rattle.std.specs.Prelude.{sum}
use Rattle.std.proofs.lemmas.Result.{IfOk-weaker}
use Rattle.tm_reorder.proofs.Agreed.{levels_agree}
use Rattle.tm_reorder.proofs.Reordered.{environment_fits}
use Rattle.tm_reorder.proofs.Within.{have_places}
use Rattle.tm_reorder.proofs.environment.clamp_environment.Goals as goal

pub move_environment-requires-clause-places : goal.move_environment-requires-clause-places
move_environment-requires-clause-places c =
    have_places c.requires.fields.0 c.args.fields.now c.requires.fields.1 (length c.args.order.now) c.requires.fields.2

pub returns-clause-order : goal.returns-clause-order
returns-clause-order c = IfOk-weaker c.move_environment.result _ _ (λ moved m. m.2.order) c.move_environment.ensures

pub returns-clause-sets : goal.returns-clause-sets
returns-clause-sets c =
    IfOk-weaker c.move_environment.result _ _
    (λ moved m d are. levels_agree d c.args.order.now c.requires.order m.0 c.requires.fits.0 c.requires.fits.1
    c.args.cert.now moved c.requires.fits.2 m.2 c.args.fields.now are
    (ap sum (sym are.widths ∙ c.requires.fields.1.widths) ∙ c.requires.fields.2) m.1)
    c.move_environment.ensures

pub returns-clause-fits : goal.returns-clause-fits
returns-clause-fits c =
    IfOk-weaker c.move_environment.result _ _
    (λ moved m. environment_fits c.args.order.now c.requires.order m.0 c.args.cert.now moved m.2)
    c.move_environment.ensures

use Rattle.tm_cir.proofs.Text.Whole.{one_driver}
use Rattle.tm_cir.proofs.driver_texts_are_determined.Goals as goal

pub returns : goal.returns
returns c = one_driver

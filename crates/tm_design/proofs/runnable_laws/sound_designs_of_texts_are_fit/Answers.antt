use Rattle.tm_design.proofs.FitDesigns.{fit_design}
use Rattle.tm_design.proofs.runnable_laws.sound_designs_of_texts_are_fit.Goals as goal

pub returns : goal.returns
returns c = fit_design

use Rattle.tm_flat_design.proofs.Markable.{markable}
use Rattle.tm_flat_design.proofs.markable_laws.sound_designs_of_texts_are_markable.Goals as goal

pub returns : goal.returns
returns c = markable

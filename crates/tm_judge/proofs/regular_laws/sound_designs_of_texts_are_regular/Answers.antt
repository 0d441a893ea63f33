use Rattle.tm_judge.proofs.Sound.{regular}
use Rattle.tm_judge.proofs.regular_laws.sound_designs_of_texts_are_regular.Goals as goal

pub returns : goal.returns
returns c = regular

use Rattle.tm_typing.proofs.Sound.{checked}
use Rattle.tm_typing.proofs.sound_designs_of_texts_are_checked.Goals as goal

pub returns : goal.returns
returns c = checked

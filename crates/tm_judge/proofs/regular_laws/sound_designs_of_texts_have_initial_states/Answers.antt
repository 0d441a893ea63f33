use Rattle.tm_judge.proofs.Begins.{initial}
use Rattle.tm_judge.proofs.regular_laws.sound_designs_of_texts_have_initial_states.Goals as goal

pub returns : goal.returns
returns c = initial

use Rattle.tm_flat_design.proofs.Callable.{callable}
use Rattle.tm_flat_design.proofs.callable_laws.sound_designs_of_texts_are_callable.Goals as goal

pub returns : goal.returns
returns c = callable

use Rattle.tm_struct.proofs.Leading.{some_move}
use Rattle.tm_struct.proofs.laws.structured_drivers_always_answer.Goals as goal

pub returns : goal.returns
returns c = λ d p s g fits. some_move d p fits s g

use Rattle.tm_struct.proofs.Leading.{same_move}
use Rattle.tm_struct.proofs.laws.structured_answers_are_determined.Goals as goal

pub returns : goal.returns
returns c = λ p s g one other first second. same_move p.functions s g first second

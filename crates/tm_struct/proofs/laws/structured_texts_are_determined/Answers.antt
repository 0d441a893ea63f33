use Rattle.tm_struct.proofs.Whole.{one_program}
use Rattle.tm_struct.proofs.laws.structured_texts_are_determined.Goals as goal

pub returns : goal.returns
returns c = λ d text one other first second. one_program d text one other first second

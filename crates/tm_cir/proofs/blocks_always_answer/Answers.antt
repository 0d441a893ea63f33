use Rattle.tm_cir.proofs.Deciding.{some_answer}
use Rattle.tm_cir.proofs.blocks_always_answer.Goals as goal

pub returns : goal.returns
returns c = λ d bs s g fit. some_answer d bs fit s g

use Rattle.tm_cir.specs.Answer.{Answers}
use Rattle.tm_sem.proofs.Excluding.{good_is_not_lost}
use Rattle.tm_judge.proofs.laws.good_blocks_are_not_of_lost_designs.Goals as goal

pub returns : goal.returns
returns c = λ d bs ranks is good lost. good_is_not_lost d is (Answers bs) ranks good lost

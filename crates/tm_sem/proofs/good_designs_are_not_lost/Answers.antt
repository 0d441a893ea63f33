use Rattle.std.proofs.Common.{◌≡◌}
use Rattle.tm_sem.proofs.Excluding.{good_is_not_lost}
use Rattle.tm_sem.proofs.good_designs_are_not_lost.Goals as goal

pub returns : goal.returns
returns c = λ d answers ranks is good lost. good_is_not_lost d is (λ s g move. answers s g ≡ move) ranks good lost

use Rattle.std.proofs.Common.{◌≡◌}
use Rattle.tm_sem.proofs.Sums.{waits_for_less_than_all}
use Rattle.tm_sem.proofs.no_goal_waits_for_all_ranks.Goals as goal

pub returns : goal.returns
returns c =
    λ d answers ranks is good first entries driven.
    waits_for_less_than_all d is (λ s g move. answers s g ≡ move) ranks good first entries driven

use Rattle.tm_sem.proofs.Winning.{one_step_more}
use Rattle.tm_sem.proofs.more_steps_keep_a_win.Goals as goal

pub returns : goal.returns
returns c = one_step_more

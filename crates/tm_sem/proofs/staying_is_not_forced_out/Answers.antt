use Rattle.tm_sem.proofs.Staying.{stays_unforced}
use Rattle.tm_sem.proofs.staying_is_not_forced_out.Goals as goal

pub returns : goal.returns
returns c = λ d set s. stays_unforced d set s

use Rattle.tm_flat.proofs.Telling.{process_steps_tell, task_steps_tell}
use Rattle.tm_flat.proofs.guarded_updates_tell_every_move.Goals as goal

pub returns-clause-processes : goal.returns-clause-processes
returns-clause-processes c = process_steps_tell

pub returns-clause-tasks : goal.returns-clause-tasks
returns-clause-tasks c = task_steps_tell

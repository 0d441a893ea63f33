use Rattle.tm_flat.proofs.Growth.{flat_kept, process_kept, task_kept}
use Rattle.tm_flat.proofs.guarded_updates_stay_what_they_are.Goals as goal

pub returns-clause-processes : goal.returns-clause-processes
returns-clause-processes c = process_kept

pub returns-clause-tasks : goal.returns-clause-tasks
returns-clause-tasks c = task_kept

pub returns-clause-whole : goal.returns-clause-whole
returns-clause-whole c = flat_kept

use Rattle.tm_syntax.proofs.sound_designs_are_small.Goals as goal
use Rattle.tm_syntax.proofs.Limits.{few_instances, few_processes, few_goals, few_fairs, few_tasks, few_bits}

pub returns-clause-instances : goal.returns-clause-instances
returns-clause-instances c = few_instances

pub returns-clause-processes : goal.returns-clause-processes
returns-clause-processes c = few_processes

pub returns-clause-goals : goal.returns-clause-goals
returns-clause-goals c = few_goals

pub returns-clause-fairs : goal.returns-clause-fairs
returns-clause-fairs c = few_fairs

pub returns-clause-tasks : goal.returns-clause-tasks
returns-clause-tasks c = few_tasks

pub returns-clause-bits : goal.returns-clause-bits
returns-clause-bits c = few_bits

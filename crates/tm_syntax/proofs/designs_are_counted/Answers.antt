use Rattle.tm_syntax.proofs.designs_are_counted.Goals as goal
use Rattle.tm_syntax.proofs.Instances.{templates_agree, instances_counted, processes_counted, tasks_counted, goals_counted, fairs_counted}
use Rattle.tm_syntax.proofs.Variables.{variables_counted}

pub returns-clause-templates : goal.returns-clause-templates
returns-clause-templates c = templates_agree

pub returns-clause-instances : goal.returns-clause-instances
returns-clause-instances c = instances_counted

pub returns-clause-processes : goal.returns-clause-processes
returns-clause-processes c = processes_counted

pub returns-clause-tasks : goal.returns-clause-tasks
returns-clause-tasks c = tasks_counted

pub returns-clause-goals : goal.returns-clause-goals
returns-clause-goals c = goals_counted

pub returns-clause-fairs : goal.returns-clause-fairs
returns-clause-fairs c = fairs_counted

pub returns-clause-bits : goal.returns-clause-bits
returns-clause-bits c = variables_counted

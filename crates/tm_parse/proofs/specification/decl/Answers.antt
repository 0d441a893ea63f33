use Rattle.std.proofs.Common.{rules}
use Rattle.tm_parse.proofs.DeclSorts.{taken_instance_decl, no_instance_decl, taken_variable_decl, no_variable_decl, taken_process_decl, no_process_decl, taken_task_decl, no_task_decl, taken_procedure_decl, no_procedure_decl, taken_goal_decl, no_goal_word, no_goal_decl, taken_fairness_decl, no_fairness_word, no_fairness_decl}
use Rattle.tm_parse.proofs.specification.decl.Goals as goal

pub returns-in-Err-clause-refused : goal.returns-in-Err-clause-refused
returns-in-Err-clause-refused c =
    no_instance_decl c.args.text.now c.args.tokens.now c.in-Instance.is _
    c.in-Err.ensures.refused

pub returns-in-Ok-clause-taken : goal.returns-in-Ok-clause-taken
returns-in-Ok-clause-taken c =
    taken_instance_decl c.in-Instance.is c.in-Ok.ensures.taken

pub returns-in-Err-variable-clause-refused : goal.returns-in-Err-variable-clause-refused
returns-in-Err-variable-clause-refused c =
    no_variable_decl c.args.text.now c.args.tokens.now c.in-Variable.is _
    c.in-Err-variable.ensures.refused

pub returns-in-Ok-variable-clause-taken : goal.returns-in-Ok-variable-clause-taken
returns-in-Ok-variable-clause-taken c =
    taken_variable_decl c.in-Variable.is c.in-Ok-variable.ensures.taken

pub returns-in-Err-process-clause-refused : goal.returns-in-Err-process-clause-refused
returns-in-Err-process-clause-refused c =
    no_process_decl c.args.text.now c.args.tokens.now c.in-Process.is _
    c.in-Err-process.ensures.refused

pub returns-in-Ok-process-clause-taken : goal.returns-in-Ok-process-clause-taken
returns-in-Ok-process-clause-taken c =
    taken_process_decl c.in-Process.is c.in-Ok-process.ensures.taken

pub returns-in-Err-task-clause-refused : goal.returns-in-Err-task-clause-refused
returns-in-Err-task-clause-refused c =
    no_task_decl c.args.text.now c.args.tokens.now c.in-Task.is _ c.in-Err-task.ensures.refused

pub returns-in-Ok-task-clause-taken : goal.returns-in-Ok-task-clause-taken
returns-in-Ok-task-clause-taken c = taken_task_decl c.in-Task.is c.in-Ok-task.ensures.taken

pub returns-in-Err-procedure-clause-refused : goal.returns-in-Err-procedure-clause-refused
returns-in-Err-procedure-clause-refused c =
    no_procedure_decl c.args.text.now c.args.tokens.now c.in-Procedure.is _
    c.in-Err-procedure.ensures.refused

pub returns-in-Ok-procedure-clause-taken : goal.returns-in-Ok-procedure-clause-taken
returns-in-Ok-procedure-clause-taken c =
    taken_procedure_decl c.in-Procedure.is c.in-Ok-procedure.ensures.taken

pub returns-in-Err-need-clause-refused : goal.returns-in-Err-need-clause-refused
returns-in-Err-need-clause-refused c =
    no_goal_word c.args.text.now c.args.tokens.now c.in-Goal.is _ c.in-Err-need.ensures.refused

pub returns-in-Err-named-clause-refused : goal.returns-in-Err-named-clause-refused
returns-in-Err-named-clause-refused c =
    no_goal_decl c.args.text.now c.in-Goal.is c.in-Ok-need.ensures.taken _
    c.in-Err-named.ensures.refused

pub returns-in-Ok-named-clause-taken : goal.returns-in-Ok-named-clause-taken
returns-in-Ok-named-clause-taken c =
    taken_goal_decl c.in-Goal.is c.in-Ok-need.ensures.taken c.in-Ok-named.ensures.taken

pub returns-in-Err-need-2-clause-refused : goal.returns-in-Err-need-2-clause-refused
returns-in-Err-need-2-clause-refused c =
    no_fairness_word c.args.text.now c.args.tokens.now c.in-Fairness.is _
    c.in-Err-need-2.ensures.refused

pub returns-in-Err-named-2-clause-refused : goal.returns-in-Err-named-2-clause-refused
returns-in-Err-named-2-clause-refused c =
    no_fairness_decl c.args.text.now c.in-Fairness.is c.in-Ok-need-2.ensures.taken _
    c.in-Err-named-2.ensures.refused

pub returns-in-Ok-named-2-clause-taken : goal.returns-in-Ok-named-2-clause-taken
returns-in-Ok-named-2-clause-taken c =
    taken_fairness_decl c.in-Fairness.is c.in-Ok-need-2.ensures.taken
    c.in-Ok-named-2.ensures.taken

use Rattle.tm_syntax.specs.Design.View.{design_tree}
use Rattle.tm_flat_states.specs.Marks.{MakesSuch}
use Rattle.tm_flat_design.specs.Making.{AreTasks}
use Rattle.tm_flat_design.proofs.tasks.task_steps.Given as goal

abbrev pub invariant-loop-number : goal.invariant-loop-number
invariant-loop-number l =
    MakesSuch l.fn.course.terms l.course.terms (AreTasks (design_tree l.tasks.design.now) l.number) l.steps.items

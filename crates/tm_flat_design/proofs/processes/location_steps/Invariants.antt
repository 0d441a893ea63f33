use Rattle.tm_syntax.specs.Design.View.{design_tree}
use Rattle.tm_flat_states.specs.Marks.{MakesSuch}
use Rattle.tm_flat_design.specs.Making.{AreSteps}
use Rattle.tm_flat_design.proofs.processes.location_steps.Given as goal

abbrev pub invariant-loop-place : goal.invariant-loop-place
invariant-loop-place l =
    MakesSuch l.fn.course.terms l.course.terms (AreSteps (design_tree l.mover.design.now) l.mover.process l.place)
    l.steps.items

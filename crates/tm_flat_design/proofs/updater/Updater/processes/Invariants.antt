use Rattle.tm_syntax.specs.Design.View.{design_tree}
use Rattle.tm_flat_states.specs.Marks.{MakesSuch}
use Rattle.tm_flat_design.specs.Making.{AreProcesses}
use Rattle.tm_flat_design.proofs.updater.Updater.processes.Given as goal

abbrev pub invariant-loop-number : goal.invariant-loop-number
invariant-loop-number l =
    MakesSuch l.fn.course.terms l.course.terms (AreProcesses (design_tree l.self.design.now) l.number) l.all.items

use Rattle.tm_syntax.specs.Design.View.{design_tree}
use Rattle.tm_flat_design.proofs.Parts.{moves_made}
use Rattle.tm_flat_design.proofs.Steps.{over_later}
use Rattle.tm_flat_design.proofs.updater.Updater.moves.Goals as goal

pub processes-requires-clause-terms : goal.processes-requires-clause-terms
processes-requires-clause-terms c =
    over_later c.args.self.now.design.now c.args.course.now.terms c.tasks.new.course.terms
    c.in_ok-tasks.ensures.grown c.in_ok-tasks.ensures.sound c.requires.terms

pub returns : goal.returns
returns c =
    moves_made (design_tree c.args.self.now.design.now) c.args.course.now.terms c.tasks.new.course.terms
    c.processes.new.course.terms c.in_ok-processes.processes c.in_ok-tasks.tasks c.in_ok-tasks.ensures
    c.in_ok-processes.ensures

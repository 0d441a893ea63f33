use Rattle.std.proofs.Common.{◌+◌, ◌<◌, ◌^◌, arith}
use Rattle.tm_syntax.specs.Design.View.{design_tree}
use Rattle.tm_flat.specs.Inputs.{first_choice, room}
use Rattle.tm_flat_moves.proofs.Stepping.{ok_so}
use Rattle.tm_flat_moves.proofs.Calling.{none_made}
use Rattle.tm_flat_moves.proofs.tasks.Tasks.task_step.Goals as goal

pub never-requires-clause-few : goal.never-requires-clause-few
never-requires-clause-few c =
    let few : first_choice (design_tree c.args.self.now.design.now) + (room + room) < 2 ^ 32 =
    c.requires.callable.few in
    omega (arith, few)

pub returns-in-None : goal.returns-in-None
returns-in-None c =
    let d = design_tree c.args.self.now.design.now in
    ok_so
    (λ step made.
    none_made c.args.course.now.terms c.never.new.course.terms d c.args.number step c.requires.inputs
    c.requires.callable.small made c.in-None.ensures.none) c.never.result c.never.ensures

pub step_of-requires-clause-called : goal.step_of-requires-clause-called
step_of-requires-clause-called c = (c.args.number, c.in-Some.ensures.found)

pub returns-in-Some : goal.returns-in-Some
returns-in-Some c = c.step_of.ensures c.args.number c.in-Some.ensures.found

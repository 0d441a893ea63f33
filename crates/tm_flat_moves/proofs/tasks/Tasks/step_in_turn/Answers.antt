use Rattle.std.proofs.Common.{◌≡◌, ◌+◌, ◌<◌, ◌^◌, length, sym, ◌∙◌, arith}
use Rattle.tm_syntax.specs.Design.View.{design_tree}
use Rattle.tm_flat.specs.Inputs.{first_choice, room}
use Rattle.tm_flat_moves.proofs.Stepping.{ok_so}
use Rattle.tm_flat_moves.proofs.Calling.{still_made}
use Rattle.tm_flat_moves.proofs.Standing.{none_first}
use Rattle.tm_flat_moves.proofs.tasks.Tasks.step_in_turn.Goals as goal

pub never-requires-clause-few : goal.never-requires-clause-few
never-requires-clause-few c =
    let few : first_choice (design_tree c.args.self.now.design.now) + (room + room) < 2 ^ 32 =
    c.requires.callable.few in
    omega (arith, few)

pub returns-in-None : goal.returns-in-None
returns-in-None c = λ number is.
    let s = c.args.self.now in
    let d = design_tree s.design.now in
    let none : length d.processes ≡ 0 =
    sym c.requires.callable.located.are ∙ none_first s.all.now c.in-None.ensures.value in
    ok_so
    (λ step made.
    still_made c.args.course.now.terms c.never.new.course.terms d number step c.requires.inputs
    c.requires.callable.small made none) c.never.result c.never.ensures

pub call_step-requires-clause-located : goal.call_step-requires-clause-located
call_step-requires-clause-located c =
    c.requires.callable.located.each 0 c.in-Some.locations.now (sym c.in-Some.ensures.value)

pub returns-in-Some : goal.returns-in-Some
returns-in-Some c = c.call_step.ensures

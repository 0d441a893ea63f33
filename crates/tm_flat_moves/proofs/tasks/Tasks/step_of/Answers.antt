use Rattle.std.proofs.Common.{◌+◌, ◌<◌, ◌^◌, subst, arith}
use Rattle.tm_syntax.specs.Design.View.{design_tree}
use Rattle.tm_flat.specs.Inputs.{first_choice, room}
use Rattle.tm_flat_moves.proofs.Stepping.{ok_so}
use Rattle.tm_flat_moves.specs.Turn.{TellsTurn}
use Rattle.tm_flat_moves.proofs.Calling.{unpicked_made}
use Rattle.tm_flat_moves.proofs.tasks.Tasks.step_of.Goals as goal

pub never-requires-clause-few : goal.never-requires-clause-few
never-requires-clause-few c =
    let few : first_choice (design_tree c.args.self.now.design.now) + (room + room) < 2 ^ 32 =
    c.requires.callable.few in
    omega (arith, few)

pub returns-in-None : goal.returns-in-None
returns-in-None c = λ number is.
    let d = design_tree c.args.self.now.design.now in
    let t = c.args.course.now.terms in
    ok_so
    (λ step made.
    unpicked_made t c.never.new.course.terms d number step c.requires.inputs c.requires.callable.small made
    (subst (TellsTurn t d) c.in-None.is c.requires.turn)) c.never.result c.never.ensures

pub step_in_turn-requires-clause-turn : goal.step_in_turn-requires-clause-turn
step_in_turn-requires-clause-turn c =
    subst (TellsTurn c.args.course.now.terms (design_tree c.args.self.now.design.now)) c.in-Some.is c.requires.turn

pub returns-in-Some : goal.returns-in-Some
returns-in-Some c = c.step_in_turn.ensures

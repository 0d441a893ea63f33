use Rattle.std.proofs.Common.{Option, sym, subst}
use Rattle.std.specs.Prelude.{IfSome}
use Rattle.tm_syntax.specs.Design.View.{design_tree}
use Rattle.tm_flat.specs.Inputs.{first_choice}
use Rattle.tm_flat_exprs.specs.Made.{IsTruth}
use Rattle.tm_flat_stmts.specs.Flows.{IsFlow}
use Rattle.tm_flat_moves.specs.declared.arrivals.Arrived.{Arrived}
use Rattle.tm_flat_moves.specs.Ended.{MakesArrived, MakesNowhere}
use Rattle.tm_flat_exprs.specs.Tables.{cells_of}
use Rattle.tm_flat_moves.proofs.mover.Mover.arrived.Goals as goal

pub nowhere-requires-clause-sound : goal.nowhere-requires-clause-sound
nowhere-requires-clause-sound c = c.requires.ending.sound

pub nowhere-requires-clause-failed : goal.nowhere-requires-clause-failed
nowhere-requires-clause-failed c =
    subst (IsTruth c.args.course.now.terms) (sym c.failed-failed.ensures) c.requires.ending.known.failed

pub nowhere-requires-clause-inputs : goal.nowhere-requires-clause-inputs
nowhere-requires-clause-inputs c = c.requires.ending.inputs

pub nowhere-requires-clause-few : goal.nowhere-requires-clause-few
nowhere-requires-clause-few c = c.requires.ending.few

pub returns-in_ok-still-in-None : goal.returns-in_ok-still-in-None
returns-in_ok-still-in-None c =
    let t = c.args.course.now.terms in
    let n = c.nowhere.new.course.terms in
    let d = design_tree c.args.self.now.design.now in
    let still = c.in_ok-still-in-None.still in
    let failed = c.args.course.now.ends.failed in
    subst (λ (o : Option Arrived). MakesArrived t n d failed c.args.mover c.args.last o still) (sym c.in-None.is)
    (subst (λ o. MakesNowhere t n (first_choice d) o still) c.failed-failed.ensures c.in_ok-still-in-None.ensures)

pub somewhere-requires-clause-ending : goal.somewhere-requires-clause-ending
somewhere-requires-clause-ending c = c.requires.ending

pub somewhere-requires-clause-flow : goal.somewhere-requires-clause-flow
somewhere-requires-clause-flow c =
    subst
    (λ (o : Option Arrived). IfSome o (λ k. IsFlow (cells_of c.args.self.now.design.now) c.args.course.now.terms
    k.flow))
    c.in-Some.is c.requires.flow

pub somewhere-requires-clause-last : goal.somewhere-requires-clause-last
somewhere-requires-clause-last c = c.requires.last

pub returns-in_ok-step-in-Some : goal.returns-in_ok-step-in-Some
returns-in_ok-step-in-Some c =
    let d = design_tree c.args.self.now.design.now in
    subst (λ (o : Option Arrived). MakesArrived c.args.course.now.terms c.somewhere.new.course.terms d
    c.args.course.now.ends.failed c.args.mover c.args.last o c.in_ok-step-in-Some.step) (sym c.in-Some.is)
    c.in_ok-step-in-Some.ensures

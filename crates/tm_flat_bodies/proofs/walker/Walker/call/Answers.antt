use Rattle.std.proofs.Common.{sym, ◌∙◌, refl}
use Rattle.tm_syntax.specs.Tree.View.{expr_trees}
use Rattle.tm_flat_bodies.specs.Inner.Places.{stack}
use Rattle.tm_flat_bodies.specs.Tables.{known_by}
use Rattle.tm_flat_bodies.proofs.CallSteps.{call_steps}
use Rattle.tm_flat_bodies.proofs.Invoking.{call_walks, callee_there}
use Rattle.tm_flat_bodies.proofs.Standing.{apart_here, ends_here, flow_here, parameters_here, settled_here}
use Rattle.tm_flat_bodies.proofs.walker.Walker.call.Goals as goal

pub called-called-requires : goal.called-called-requires
called-called-requires c =
    call_walks (known_by c.args.self.now) c.args.stand.now c.args.path.now (expr_trees c.args.args.now)
    c.args.course.now c.args.flow c.requires

pub enter-requires-clause-tables : goal.enter-requires-clause-tables
enter-requires-clause-tables c = c.called-called.ensures.tables ∙ sym c.requires.stand.tables

pub enter-requires-clause-callee : goal.enter-requires-clause-callee
enter-requires-clause-callee c = (
  c.args.path.now,
  callee_there (known_by c.args.self.now) c.args.stand.now c.args.path.now c.requires.stand c.called-called.result
      c.called-called.ensures,
)

pub enter-requires-clause-typed : goal.enter-requires-clause-typed
enter-requires-clause-typed c =
    c.requires.typed.fit c.called-called.result.stand.reader.at c.called-called.result.task.now
    (callee_there (known_by c.args.self.now) c.args.stand.now c.args.path.now c.requires.stand c.called-called.result
    c.called-called.ensures)

pub enter-requires-clause-parameters : goal.enter-requires-clause-parameters
enter-requires-clause-parameters c =
    parameters_here (known_by c.args.self.now) c.args.stand.now c.requires.stand c.requires.stand.walkable

pub enter-requires-clause-settled : goal.enter-requires-clause-settled
enter-requires-clause-settled c =
    settled_here (known_by c.args.self.now) c.args.stand.now c.requires.stand c.requires.stand.walkable

pub enter-requires-clause-apart : goal.enter-requires-clause-apart
enter-requires-clause-apart c =
    apart_here (known_by c.args.self.now) c.args.stand.now c.requires.stand c.requires.stand.walkable

pub enter-requires-clause-sound : goal.enter-requires-clause-sound
enter-requires-clause-sound c = c.requires.standing.sound

pub enter-requires-clause-flow : goal.enter-requires-clause-flow
enter-requires-clause-flow c =
    flow_here (known_by c.args.self.now) c.args.stand.now c.requires.stand c.args.course.now.terms c.args.flow
    c.requires.standing.stands

pub enter-requires-clause-ends : goal.enter-requires-clause-ends
enter-requires-clause-ends c =
    ends_here (known_by c.args.self.now) c.args.stand.now c.requires.stand c.args.course.now.terms
    c.args.course.now.ends c.requires.standing.ended

pub returns : goal.returns
returns c = λ start.
    call_steps (known_by c.args.self.now) c.args.stand.now c.args.path.now c.called-called.result
    c.called-called.ensures c.home-home.result _ c.home-home.ensures refl start (expr_trees c.args.args.now)
    c.args.course.now _ c.args.flow c.in_ok-entered.entered c.requires c.in_ok-entered.ensures
    (stack c.args.waiting.now) _ c.in_ok-leave.ensures

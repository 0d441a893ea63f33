use Rattle.std.proofs.Common.{sym, ◌∙◌, refl}
use Rattle.std.specs.Option.{option_map}
use Rattle.tm_syntax.specs.Tree.View.{expr_tree, expr_trees}
use Rattle.tm_flat_bodies.specs.Inner.Places.{stack}
use Rattle.tm_flat_bodies.specs.Tables.{known_by}
use Rattle.tm_flat_bodies.proofs.CallSteps.{result_steps}
use Rattle.tm_flat_bodies.proofs.Invoking.{call_walks, callee_there}
use Rattle.tm_flat_bodies.proofs.Returning.{aimed_standing, result_walks}
use Rattle.tm_flat_bodies.proofs.Standing.{apart_here, ends_here, flow_here, parameters_here, settled_here}
use Rattle.tm_flat_bodies.proofs.walker.Walker.assign_call.Goals as goal

pub called-called-requires : goal.called-called-requires
called-called-requires c =
    call_walks (known_by c.args.self.now) c.args.stand.now c.args.name.now (expr_trees c.args.args.now)
    c.args.course.now c.args.flow
    (result_walks (known_by c.args.self.now) c.args.stand.now c.args.path.now (option_map expr_tree c.args.index.now)
    c.args.name.now (expr_trees c.args.args.now) c.args.course.now c.args.flow c.requires)

pub enter-requires-clause-tables : goal.enter-requires-clause-tables
enter-requires-clause-tables c = c.called-called.ensures.tables ∙ sym c.requires.stand.tables

pub enter-requires-clause-callee : goal.enter-requires-clause-callee
enter-requires-clause-callee c = (
  c.args.name.now,
  callee_there (known_by c.args.self.now) c.args.stand.now c.args.name.now c.requires.stand c.called-called.result
      c.called-called.ensures,
)

pub enter-requires-clause-typed : goal.enter-requires-clause-typed
enter-requires-clause-typed c =
    c.requires.typed.2.call.fit c.called-called.result.stand.reader.at c.called-called.result.task.now
    (callee_there (known_by c.args.self.now) c.args.stand.now c.args.name.now c.requires.stand c.called-called.result
    c.called-called.ensures)

pub enter-requires-clause-parameters : goal.enter-requires-clause-parameters
enter-requires-clause-parameters c =
    parameters_here (known_by c.args.self.now) c.args.stand.now c.requires.stand c.requires.stand.walkable

pub enter-requires-clause-settled : goal.enter-requires-clause-settled
enter-requires-clause-settled c =
    settled_here (known_by c.args.self.now) c.args.stand.now c.requires.stand c.requires.stand.walkable

pub enter-requires-clause-apart : goal.enter-requires-clause-apart
enter-requires-clause-apart c =
    apart_here (known_by c.args.self.now) c.args.stand.now c.requires.stand c.requires.stand.walkable

pub aimed-requires-clause-typed : goal.aimed-requires-clause-typed
aimed-requires-clause-typed c = (c.requires.typed.0, c.requires.typed.1)

pub aimed-requires-clause-settled : goal.aimed-requires-clause-settled
aimed-requires-clause-settled c =
    settled_here (known_by c.args.self.now) c.args.stand.now c.requires.stand c.requires.stand.walkable

pub aimed-requires-clause-sound : goal.aimed-requires-clause-sound
aimed-requires-clause-sound c = c.requires.standing.sound

pub aimed-requires-clause-flow : goal.aimed-requires-clause-flow
aimed-requires-clause-flow c =
    flow_here (known_by c.args.self.now) c.args.stand.now c.requires.stand c.args.course.now.terms c.args.flow
    c.requires.standing.stands

pub aimed-requires-clause-ends : goal.aimed-requires-clause-ends
aimed-requires-clause-ends c =
    ends_here (known_by c.args.self.now) c.args.stand.now c.requires.stand c.args.course.now.terms
    c.args.course.now.ends c.requires.standing.ended

pub enter-requires-clause-sound : goal.enter-requires-clause-sound
enter-requires-clause-sound c =
    (aimed_standing (known_by c.args.self.now) c.args.stand.now c.args.path.now (option_map expr_tree c.args.index.now)
    c.args.name.now (expr_trees c.args.args.now) c.args.course.now c.args.flow c.requires c.aimed.new.course
    c.in_ok-aim.aim c.in_ok-aim.ensures).sound

pub enter-requires-clause-flow : goal.enter-requires-clause-flow
enter-requires-clause-flow c =
    flow_here (known_by c.args.self.now) c.args.stand.now c.requires.stand c.aimed.new.course.terms
    c.in_ok-aim.aim.flow
    (aimed_standing (known_by c.args.self.now) c.args.stand.now c.args.path.now (option_map expr_tree c.args.index.now)
    c.args.name.now (expr_trees c.args.args.now) c.args.course.now c.args.flow c.requires c.aimed.new.course
    c.in_ok-aim.aim c.in_ok-aim.ensures).stands

pub enter-requires-clause-ends : goal.enter-requires-clause-ends
enter-requires-clause-ends c =
    ends_here (known_by c.args.self.now) c.args.stand.now c.requires.stand c.aimed.new.course.terms
    c.aimed.new.course.ends
    (aimed_standing (known_by c.args.self.now) c.args.stand.now c.args.path.now (option_map expr_tree c.args.index.now)
    c.args.name.now (expr_trees c.args.args.now) c.args.course.now c.args.flow c.requires c.aimed.new.course
    c.in_ok-aim.aim c.in_ok-aim.ensures).ended

pub returns : goal.returns
returns c = λ start at.
    result_steps (known_by c.args.self.now) c.args.stand.now c.args.name.now c.called-called.result
    c.called-called.ensures c.home-home.result _ c.home-home.ensures refl start c.args.spot at _ refl c.args.path
    (option_map expr_tree c.args.index.now) (expr_trees c.args.args.now) c.args.course.now c.aimed.new.course _
    c.args.flow c.in_ok-entered.entered c.in_ok-aim.aim c.requires c.in_ok-aim.ensures c.in_ok-entered.ensures
    (stack c.args.waiting.now) _ _ c.in_ok-leave.ensures c.in_ok-leave-2.ensures

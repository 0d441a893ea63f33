use Rattle.std.proofs.Common.{refl, sym, ap, ◌∙◌, subst}
use Rattle.std.specs.Prelude.{unwrap_or}
use Rattle.tm_design.specs.Typed.{HasTypeAt}
use Rattle.tm_design.specs.StepCells.{AreApart}
use Rattle.tm_flat_stmts.specs.Flows.{AreEnds, IsFlow}
use Rattle.tm_flat_stmts.specs.Statements.{AreSettledCells}
use Rattle.tm_flat_stmts.specs.Targets.{HasTargetAt}
use Rattle.tm_flat_bodies.specs.declared.stand.Stand.{Stand}
use Rattle.tm_flat_bodies.specs.Inner.Passing.{Answers}
use Rattle.tm_flat_bodies.specs.Inner.Places.{stand_at}
use Rattle.tm_flat_bodies.specs.Tables.{known_by}
use Rattle.tm_flat_bodies.proofs.Standing.{apart_here, ends_here, flow_here, settled_here}
use Rattle.tm_flat_bodies.proofs.walker.Walker.answer_by.Goals as goal

pub answer-requires-clause-tables : goal.answer-requires-clause-tables
answer-requires-clause-tables c =
    let w = known_by c.args.self.now in
    let start = c.args.start.now in
    let outer = c.requires.2 start ∙ sym c.stand_or-outer.ensures in
    let inner = c.requires.3 start ∙ sym c.stand_or-inner.ensures in
    sym (ap (λ (f : Stand). f.reader.tables) inner) ∙ sym c.requires.4.stand.tables
    ∙ ap (λ (f : Stand). f.reader.tables) outer

pub answer-requires-clause-typed : goal.answer-requires-clause-typed
answer-requires-clause-typed c =
    let w = known_by c.args.self.now in
    let start = c.args.start.now in
    let outer = c.requires.2 start ∙ sym c.stand_or-outer.ensures in
    let inner = c.requires.3 start ∙ sym c.stand_or-inner.ensures in (
      c.requires.4.ty,
      subst (λ (f : Stand). HasTargetAt f.reader c.requires.4.ty c.args.path.now) outer c.requires.4.target,
      λ e answered. subst (λ (f : Stand). HasTypeAt f.reader c.requires.4.ty e) inner (c.requires.4.typed e answered),
    )

pub answer-requires-clause-place : goal.answer-requires-clause-place
answer-requires-clause-place c = c.requires.4.known

pub answer-requires-clause-settled : goal.answer-requires-clause-settled
answer-requires-clause-settled c =
    let w = known_by c.args.self.now in
    let start = c.args.start.now in
    let outer = c.requires.2 start ∙ sym c.stand_or-outer.ensures in
    subst (λ (f : Stand). AreSettledCells f.reader) outer
    (settled_here w (stand_at w start c.requires.0) c.requires.4.stand c.requires.4.stand.walkable)

pub answer-requires-clause-apart : goal.answer-requires-clause-apart
answer-requires-clause-apart c =
    let w = known_by c.args.self.now in
    let start = c.args.start.now in
    let outer = c.requires.2 start ∙ sym c.stand_or-outer.ensures in
    subst (λ (f : Stand). AreApart f.reader.tables) outer
    (apart_here w (stand_at w start c.requires.0) c.requires.4.stand c.requires.4.stand.walkable)

pub answer-requires-clause-sound : goal.answer-requires-clause-sound
answer-requires-clause-sound c = c.requires.4.standing.sound

pub answer-requires-clause-flow : goal.answer-requires-clause-flow
answer-requires-clause-flow c =
    let w = known_by c.args.self.now in
    let start = c.args.start.now in
    let outer = c.requires.2 start ∙ sym c.stand_or-outer.ensures in
    subst (λ (f : Stand). IsFlow f.reader.tables c.args.course.now.terms c.args.left) outer
    (flow_here w (stand_at w start c.requires.0) c.requires.4.stand c.args.course.now.terms c.args.left
    c.requires.4.standing.stands)

pub answer-requires-clause-ends : goal.answer-requires-clause-ends
answer-requires-clause-ends c =
    let w = known_by c.args.self.now in
    let start = c.args.start.now in
    let outer = c.requires.2 start ∙ sym c.stand_or-outer.ensures in
    subst (λ (f : Stand). AreEnds f.reader.tables c.args.course.now.terms c.args.course.now.ends) outer
    (ends_here w (stand_at w start c.requires.0) c.requires.4.stand c.args.course.now.terms c.args.course.now.ends
    c.requires.4.standing.ended)

pub returns : goal.returns
returns c = record {
  behind = c.in_ok-goes.goes;
  is = refl;
  answers =
      subst (λ (f : Stand). Answers f.reader c.args.path.now c.args.place.now
      (record { stand = unwrap_or c.args.inner.now c.args.start.now; task = c.args.task }) c.args.course.now
      c.answer.new.course c.args.left c.in_ok-goes.goes) c.stand_or-outer.ensures
      (subst (λ (f : Stand). Answers c.stand_or-outer.result.now.reader c.args.path.now c.args.place.now
      (record { stand = f; task = c.args.task }) c.args.course.now c.answer.new.course c.args.left c.in_ok-goes.goes)
      c.stand_or-inner.ensures c.in_ok-goes.ensures);
}

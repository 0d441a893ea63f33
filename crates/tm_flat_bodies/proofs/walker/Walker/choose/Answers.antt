use Rattle.std.proofs.Common.{length}
use Rattle.tm_flat.specs.Inputs.{room}
use Rattle.tm_flat_bodies.specs.Inner.Alternatives.{block_rows}
use Rattle.tm_flat_bodies.specs.Inner.Places.{stack}
use Rattle.tm_flat_bodies.specs.Tables.{known_by}
use Rattle.tm_flat_bodies.proofs.Alternating.{choice_within}
use Rattle.tm_flat_bodies.proofs.Bodies.{rows_long}
use Rattle.tm_flat_bodies.proofs.Choices.{choose_steps}
use Rattle.tm_flat_bodies.proofs.walker.Walker.choose.Goals as goal

pub enter_choice-requires-clause-standing : goal.enter_choice-requires-clause-standing
enter_choice-requires-clause-standing c = c.requires.2.standing

pub enter_choice-requires-clause-within : goal.enter_choice-requires-clause-within
enter_choice-requires-clause-within c =
    let walkable = c.requires.2.stand.walkable in
    choice_within (block_rows c.args.blocks.now) (length c.args.blocks.now) c.args.flow.position room
    (rows_long c.args.blocks.now)
    (c.requires.2.fits walkable.design walkable.process walkable.cells walkable.are).1

pub returns : goal.returns
returns c = λ start f place at walks.
    choose_steps (known_by c.args.self.now) start c.args.spot place c.args.blocks c.args.course.now _ c.args.flow
    c.in_ok-choice.choice c.in_ok-choice.ensures (stack c.args.waiting.now) _ c.in_ok-leave.ensures f at walks

use Rattle.tm_syntax.specs.Tree.View.{expr_tree}
use Rattle.tm_flat_bodies.specs.Inner.Places.{stack}
use Rattle.tm_flat_bodies.specs.Tables.{known_by}
use Rattle.tm_flat_bodies.proofs.Parting.{branch_steps}
use Rattle.tm_flat_bodies.proofs.Standing.{ends_here, flow_here, settled_here}
use Rattle.tm_flat_bodies.proofs.walker.Walker.branch.Goals as goal

pub part-requires-clause-typed : goal.part-requires-clause-typed
part-requires-clause-typed c = c.requires.typed.0

pub part-requires-clause-settled : goal.part-requires-clause-settled
part-requires-clause-settled c =
    settled_here (known_by c.args.self.now) c.args.stand.now c.requires.stand c.requires.stand.walkable

pub part-requires-clause-sound : goal.part-requires-clause-sound
part-requires-clause-sound c = c.requires.standing.sound

pub part-requires-clause-flow : goal.part-requires-clause-flow
part-requires-clause-flow c =
    flow_here (known_by c.args.self.now) c.args.stand.now c.requires.stand c.args.course.now.terms c.args.flow
    c.requires.standing.stands

pub part-requires-clause-ends : goal.part-requires-clause-ends
part-requires-clause-ends c =
    ends_here (known_by c.args.self.now) c.args.stand.now c.requires.stand c.args.course.now.terms
    c.args.course.now.ends
    c.requires.standing.ended

pub returns : goal.returns
returns c = λ start at.
    branch_steps (known_by c.args.self.now) start c.args.spot c.args.stand.now at (expr_tree c.args.e.now)
    c.args.course.now c.part.new.course c.args.flow c.in_ok-parts.parts c.in_ok-parts.ensures
    (stack c.args.waiting.now) _ _ c.args.first c.args.second c.requires c.in_ok-leave.ensures
    c.in_ok-leave-2.ensures

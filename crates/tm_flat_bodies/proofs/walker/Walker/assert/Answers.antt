use Rattle.std.proofs.Common.{Some}
use Rattle.tm_syntax.specs.Tree.{assert}
use Rattle.tm_syntax.specs.Tree.View.{expr_tree}
use Rattle.tm_flat_bodies.specs.Tables.{known_by}
use Rattle.tm_flat_bodies.proofs.Standing.{ends_here, flow_here, settled_here, through_leads}
use Rattle.tm_flat_bodies.proofs.walker.Walker.assert.Goals as goal

pub asserted-requires-clause-typed : goal.asserted-requires-clause-typed
asserted-requires-clause-typed c = c.requires.1.typed

pub asserted-requires-clause-settled : goal.asserted-requires-clause-settled
asserted-requires-clause-settled c =
    settled_here (known_by c.args.self.now) c.args.stand.now c.requires.1.stand c.requires.1.stand.walkable

pub asserted-requires-clause-sound : goal.asserted-requires-clause-sound
asserted-requires-clause-sound c = c.requires.1.standing.sound

pub asserted-requires-clause-flow : goal.asserted-requires-clause-flow
asserted-requires-clause-flow c =
    flow_here (known_by c.args.self.now) c.args.stand.now c.requires.1.stand c.args.course.now.terms c.args.flow
    c.requires.1.standing.stands

pub asserted-requires-clause-ends : goal.asserted-requires-clause-ends
asserted-requires-clause-ends c =
    ends_here (known_by c.args.self.now) c.args.stand.now c.requires.1.stand c.args.course.now.terms
    c.args.course.now.ends
    c.requires.1.standing.ended

pub returns : goal.returns
returns c = λ at.
    through_leads (known_by c.args.self.now) c.args.stand.now c.requires.1.stand (assert at (expr_tree c.args.e.now))
    c.args.course.now
    (record c.args.course.now { terms = c.asserted.new.terms; ends = c.asserted.new.ends }) c.args.flow
    (Some c.in_ok-goes.goes) (c.in_ok-goes.ensures at c.args.self.now.first)

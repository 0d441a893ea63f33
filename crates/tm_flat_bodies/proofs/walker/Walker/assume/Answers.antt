use Rattle.std.proofs.Common.{Some}
use Rattle.tm_syntax.specs.Tree.{assume}
use Rattle.tm_syntax.specs.Tree.View.{expr_tree}
use Rattle.tm_flat_bodies.specs.Tables.{known_by}
use Rattle.tm_flat_bodies.proofs.Standing.{ends_here, flow_here, settled_here, through_leads}
use Rattle.tm_flat_bodies.proofs.walker.Walker.assume.Goals as goal

pub assumed-requires-clause-typed : goal.assumed-requires-clause-typed
assumed-requires-clause-typed c = c.requires.1.typed

pub assumed-requires-clause-settled : goal.assumed-requires-clause-settled
assumed-requires-clause-settled c =
    settled_here (known_by c.args.self.now) c.args.stand.now c.requires.1.stand c.requires.1.stand.walkable

pub assumed-requires-clause-sound : goal.assumed-requires-clause-sound
assumed-requires-clause-sound c = c.requires.1.standing.sound

pub assumed-requires-clause-flow : goal.assumed-requires-clause-flow
assumed-requires-clause-flow c =
    flow_here (known_by c.args.self.now) c.args.stand.now c.requires.1.stand c.args.course.now.terms c.args.flow
    c.requires.1.standing.stands

pub assumed-requires-clause-ends : goal.assumed-requires-clause-ends
assumed-requires-clause-ends c =
    ends_here (known_by c.args.self.now) c.args.stand.now c.requires.1.stand c.args.course.now.terms
    c.args.course.now.ends
    c.requires.1.standing.ended

pub returns : goal.returns
returns c = λ at.
    through_leads (known_by c.args.self.now) c.args.stand.now c.requires.1.stand (assume at (expr_tree c.args.e.now))
    c.args.course.now
    (record c.args.course.now { terms = c.assumed.new.terms; ends = c.assumed.new.ends }) c.args.flow
    (Some c.in_ok-goes.goes) (c.in_ok-goes.ensures at c.args.self.now.first)

use Rattle.tm_flat_bodies.specs.Inner.Places.{stack}
use Rattle.tm_flat_bodies.specs.Tables.{known_by}
use Rattle.tm_flat_bodies.proofs.Parting.{forever_steps}
use Rattle.tm_flat_bodies.proofs.walker.Walker.run_forever.Goals as goal

pub returns : goal.returns
returns c = λ start f place at walks.
    forever_steps (known_by c.args.self.now) start c.args.spot f at place c.args.body c.args.course.now c.args.flow
    (stack c.args.waiting.now) _ _ walks c.in_ok-leave.ensures c.in_ok-leave-2.ensures

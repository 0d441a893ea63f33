use Rattle.tm_flat_bodies.specs.Inner.Places.{stack}
use Rattle.tm_flat_bodies.specs.Tables.{known_by}
use Rattle.tm_flat_bodies.proofs.Parting.{second_steps}
use Rattle.tm_flat_bodies.proofs.walker.Walker.begin_second.Goals as goal

pub returns : goal.returns
returns c =
    second_steps (known_by c.args.self.now) c.args.start.now c.args.spot c.args.second c.args.other c.args.course.now
    c.args.here (stack c.args.waiting.now) _ _ c.requires c.in_ok-leave.ensures c.in_ok-leave-2.ensures

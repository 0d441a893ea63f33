use Rattle.tm_plain_bodies.proofs.Stacks.{owed_next}
use Rattle.tm_plain_bodies.proofs.todo.push.Goals as goal

pub returns : goal.returns
returns c = owed_next c.push.new.self.items c.args.todo.now.items c.args.next c.in_ok-push.ensures.items

use Rattle.std.proofs.Common.{refl, rules}
use Rattle.tm_syntax.specs.Design.View.{design_tree}
use Rattle.tm_play.proofs.Stopping.{not_permitted}
use Rattle.tm_play.proofs.play.turn.without_answer.Goals as goal

pub returns-then-permits : goal.returns-then-permits
returns-then-permits c = (refl, refl, search rules)

pub returns-else-permits : goal.returns-else-permits
returns-else-permits c =
    (refl, not_permitted (design_tree c.args.machine.now) c.args.state.now c.args.action (search rules))

use Rattle.tm_flat.specs.Inputs.{room}
use Rattle.tm_game_steps.proofs.encoding.Encoding.arguments.Goals as goal

pub returns : goal.returns
unfolding room
returns c = c.in_ok-levels.ensures

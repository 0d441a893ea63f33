use Rattle.tm_flat.specs.Inputs.{room}
use Rattle.tm_game_steps.specs.Setting.{setting_of}
use Rattle.tm_game_steps.proofs.Readings.{choices_are_below}
use Rattle.tm_game_steps.proofs.encoding.Encoding.choices_below.Goals as goal

pub returns : goal.returns
unfolding room
returns c =
    choices_are_below (setting_of c.args.self.now) c.args.above c.count_below.result c.in_ok-levels.levels.items
    c.in_ok-levels.ensures c.count_below.ensures.few c.count_below.ensures.all

use Rattle.std.proofs.Common.{refl}
use Rattle.tm_game_steps.specs.Setting.{setting_of}
use Rattle.tm_game_steps.proofs.Driving.{idle_is}
use Rattle.tm_game_steps.proofs.Passing.{passing_numbers}
use Rattle.tm_game_steps.proofs.encoding.Encoding.idle_step.Goals as goal

pub changed-requires-clause-next : goal.changed-requires-clause-next
changed-requires-clause-next c = passing_numbers (setting_of c.args.self.now) 1 c.args.idle.now c.requires.idle

pub returns-clause-step : goal.returns-clause-step
returns-clause-step c =
    idle_is (setting_of c.args.self.now) c.args.dd.now.table c.changed.new.dd.table c.args.turn c.args.idle.now _
    c.changed.ensures.earlier c.requires.turn refl refl c.requires.ready.within c.requires.idle
    c.in_ok-next.ensures.changes c.new.ensures.items c.new-2.ensures.items

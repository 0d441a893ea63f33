use Rattle.tm_blast.specs.Numbers.{level_lists}
use Rattle.tm_game_steps.proofs.Readings.{readings_more}
use Rattle.tm_game_steps.proofs.reading.readings.Goals as goal

pub loop-id-preserved : goal.loop-id-preserved
loop-id-preserved c =
    readings_more c.args.terms.now (level_lists c.args.levels.now) c.loop-id.id c.above_term-above.result
    c.loop-id.reads.items c.push.new.self.items c.loop-id.invariant c.above_term-above.ensures
    c.in_ok-push.ensures.items

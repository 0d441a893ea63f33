use Rattle.std.proofs.Common.{ap, ◌∙◌}
use Rattle.tm_cert.specs.Written.{level_data}
use Rattle.tm_cert.proofs.Writing.{written_all, written_more}
use Rattle.tm_cert.proofs.write.levels_value.Goals as goal

pub loop-level-preserved : goal.loop-level-preserved
loop-level-preserved c =
    written_more level_data c.args.levels.now c.loop-level.level-index c.level-item.result c.loop-level.items.items _ _
    c.loop-level.invariant c.loop-level-test.true (c.in_ok-level_value.ensures ∙ ap level_data c.level-item.is)
    c.in_ok-push.ensures.items

pub returns : goal.returns
returns c =
    written_all level_data c.args.levels.now c.loop-level.level-index c.loop-level.items c.loop-level.invariant
    c.loop-level-test.false

use Rattle.std.proofs.Common.{arith}
use Rattle.tm_blast.specs.Numbers.{level_lists}
use Rattle.tm_game_steps.proofs.Changed.{changed_all}
use Rattle.tm_game_steps.proofs.Pushed.{length-level_lists}
use Rattle.tm_game_steps.proofs.changing.changes.Goals as goal

pub returns-clause-changes : goal.returns-clause-changes
returns-clause-changes c =
    changed_all c.args.terms.now (level_lists c.args.levels.now) c.loop-input.dd.table c.args.next.now
    c.loop-input.changes.items c.loop-input.input
    (omega (arith, length-level_lists c.args.levels.now, c.requires.count)) c.loop-input-test.false
    c.loop-input.invariant.below

use Rattle.std.proofs.Common.{sym, subst, arith}
use Rattle.tm_game.specs.Inner.Restored.{SameChanges}
use Rattle.tm_game.proofs.Restoring.{changes_put, written_back}
use Rattle.tm_game.proofs.restore.put_changes.Goals as goal

pub returns-clause-same : goal.returns-clause-same
returns-clause-same c = λ s t olds same stand.
    subst (SameChanges s c.args.changes.now.items t)
    (sym (written_back c.loop-change.change-items c.args.changes.now.items c.args.changes.now.len
    c.loop-change.invariant.long (omega (arith, c.args.changes.now.ok.0))))
    (changes_put s t olds c.args.ids.now same c.args.at c.args.changes.now.items c.loop-change.change-items stand
    c.loop-change.invariant.long
    (λ k d below.
    c.loop-change.invariant.levels k d (omega (arith, c.loop-change.invariant.long, c.loop-change-test.false)))
    (λ k d below.
    c.loop-change.invariant.ids k d (omega (arith, c.loop-change.invariant.long, c.loop-change-test.false))))

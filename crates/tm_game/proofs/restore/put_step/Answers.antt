use Rattle.std.proofs.Common.{◌+◌, ◌∷◌}
use Rattle.tm_game.specs.Inner.Listed.{change_ids}
use Rattle.tm_game.proofs.Restoring.{restored_head, stands_tail, stands_third, step_same}
use Rattle.tm_game.proofs.restore.put_step.Goals as goal

pub returns-clause-same : goal.returns-clause-same
returns-clause-same c = λ s t olds same stand.
    step_same s t c.args.step.now _ _ c.put_changes.new.changes
    (restored_head s t olds c.args.ids.now same c.args.at c.args.step.now.legal
    (c.args.step.now.error ∷ change_ids c.args.step.now.next.items) stand (record { 0 = 0 }))
    (restored_head s t olds c.args.ids.now same (c.args.at + 1) c.args.step.now.error
    (change_ids c.args.step.now.next.items)
    (stands_tail olds c.args.at c.args.step.now.legal
    (c.args.step.now.error ∷ change_ids c.args.step.now.next.items) stand) (record { 0 = 0 }))
    (c.put_changes.ensures.same s t olds same
    (stands_third olds c.args.at c.args.step.now.legal c.args.step.now.error
    (change_ids c.args.step.now.next.items) stand))

use Rattle.std.proofs.Common.{ℕ, ◌+◌, ◌∷◌, ◌++◌, sym, subst}
use Rattle.tm_game.specs.Inner.Listed.{change_ids, steps_ids}
use Rattle.tm_game.specs.Inner.Restored.{StandAt}
use Rattle.tm_game.proofs.Restoring.{game_same, restored_head, stands_left, stands_right, stands_tail, stands_third}
use Rattle.tm_game.proofs.restore.put_game.Goals as goal

pub returns-clause-same : goal.returns-clause-same
returns-clause-same c = λ s t olds same stand.
    let third = stands_third olds c.args.at c.args.steps.now.valid c.args.steps.now.turn
    (change_ids c.args.steps.now.stutter.items
    ++ (steps_ids c.args.steps.now.environment.items ++ steps_ids c.args.steps.now.driver.items)) stand in
    let stutter = stands_left olds (c.args.at + 2) (change_ids c.args.steps.now.stutter.items)
    (steps_ids c.args.steps.now.environment.items ++ steps_ids c.args.steps.now.driver.items) third in
    let behind = subst (λ (n : ℕ). StandAt olds n
    (steps_ids c.args.steps.now.environment.items ++ steps_ids c.args.steps.now.driver.items))
    (sym c.put_changes-behind.ensures.at)
    (stands_right olds (c.args.at + 2) (change_ids c.args.steps.now.stutter.items)
    (steps_ids c.args.steps.now.environment.items ++ steps_ids c.args.steps.now.driver.items) third) in
    let environment = stands_left olds c.put_changes-behind.result (steps_ids c.args.steps.now.environment.items)
    (steps_ids c.args.steps.now.driver.items) behind in
    let driver = subst (λ (n : ℕ). StandAt olds n (steps_ids c.args.steps.now.driver.items))
    (sym c.put_steps-behind.ensures.at)
    (stands_right olds c.put_changes-behind.result (steps_ids c.args.steps.now.environment.items)
    (steps_ids c.args.steps.now.driver.items) behind) in
    game_same s t c.args.steps.now _ _ c.put_changes-behind.new.changes c.put_steps-behind.new.steps
    c.put_steps.new.steps
    (restored_head s t olds c.args.ids.now same c.args.at c.args.steps.now.valid
    (c.args.steps.now.turn
    ∷ (change_ids c.args.steps.now.stutter.items
    ++ (steps_ids c.args.steps.now.environment.items ++ steps_ids c.args.steps.now.driver.items))) stand
    (record { 0 = 0 }))
    (restored_head s t olds c.args.ids.now same (c.args.at + 1) c.args.steps.now.turn
    (change_ids c.args.steps.now.stutter.items
    ++ (steps_ids c.args.steps.now.environment.items ++ steps_ids c.args.steps.now.driver.items))
    (stands_tail olds c.args.at c.args.steps.now.valid
    (c.args.steps.now.turn
    ∷ (change_ids c.args.steps.now.stutter.items
    ++ (steps_ids c.args.steps.now.environment.items ++ steps_ids c.args.steps.now.driver.items))) stand)
    (record { 0 = 0 }))
    (c.put_changes-behind.ensures.same s t olds same stutter)
    (c.put_steps-behind.ensures.same s t olds same environment)
    (c.put_steps.ensures.same s t olds same driver)

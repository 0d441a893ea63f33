use Rattle.std.proofs.Common.{List, [], ◌∷◌, ◌++◌, ap, ◌∙◌}
use Rattle.tm_flat.specs.Flat.{flat_terms}
use Rattle.tm_dd.specs.Table.{means}
use Rattle.tm_game_bits.specs.declared.step.StepDiagrams.{StepDiagrams}
use Rattle.tm_game_steps.specs.Setting.{setting_of}
use Rattle.tm_game_steps.proofs.Driving.{driver_are}
use Rattle.tm_game_steps.proofs.encoding.Encoding.driver_steps.Goals as goal

pub returns-clause-steps : goal.returns-clause-steps
returns-clause-steps c =
    driver_are (setting_of c.args.self.now) (flat_terms c.args.flat.now) c.idle_step.new.dd.table
    c.push_tasks.new.dd.table c.push_processes.new.dd.table (means c.args.dd.now.table c.args.turn) c.in_ok-step.step
    c.push.new.self.items c.push_tasks.new.list.items c.push_processes.new.list.items c.in_ok-movers.movers.items
    c.push_tasks.ensures.earlier c.push_processes.ensures.earlier c.in_ok-step.ensures.step
    (c.in_ok-push.ensures.items
    ∙ ap (λ (xs : List StepDiagrams). xs ++ c.in_ok-step.step ∷ []) c.new-list.ensures.items)
    c.in_ok-push_tasks.ensures.steps c.in_ok-movers.ensures.steps

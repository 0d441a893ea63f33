use Rattle.std.proofs.Common.{ℕ, true, List, subst, arith}
use Rattle.std.proofs.lemmas.List.{length-map}
use Rattle.tm_flat.specs.Flat.{flat_terms, step_terms}
use Rattle.tm_game_steps.specs.Inner.Pushed.{IsTelling}
use Rattle.tm_game_steps.specs.Setting.{setting_of}
use Rattle.tm_game_steps.specs.Telling.{AreStepTerms}
use Rattle.tm_game_steps.proofs.Ready.{guarded_always}
use Rattle.tm_game_steps.proofs.Telling.{task_at, task_terms, task_there}
use Rattle.tm_game_steps.proofs.encoding.Encoding.task_step.Goals as goal

pub truth-requires-clause-term : goal.truth-requires-clause-term
truth-requires-clause-term c =
    (task_terms (AreStepTerms (setting_of c.args.self.now)) c.args.flat.now.tasks.items c.args.task
    c.index-step.result.now (omega (arith, c.requires.task, length-map c.args.flat.now.tasks.items step_terms))
    c.index-step.ensures c.requires.terms.tasks).legal

pub step-requires-clause-terms : goal.step-requires-clause-terms
step-requires-clause-terms c =
    task_terms (AreStepTerms (setting_of c.args.self.now)) c.args.flat.now.tasks.items c.args.task
    c.index-step.result.now (omega (arith, c.requires.task, length-map c.args.flat.now.tasks.items step_terms))
    c.index-step.ensures c.requires.terms.tasks

pub returns-clause-step : goal.returns-clause-step
returns-clause-step c =
    task_there (setting_of c.args.self.now) (flat_terms c.args.flat.now) c.step.new.dd.table c.args.task
    (step_terms c.index-step.result.now) c.in_ok-calls.calls
    (task_at c.args.flat.now.tasks.items c.args.task c.index-step.result.now
    (omega (arith, c.requires.task, length-map c.args.flat.now.tasks.items step_terms)) c.index-step.ensures)
    (subst (λ (given : List ℕ).
    IsTelling (setting_of c.args.self.now) c.step.new.dd.table (λ values. true) given
    (step_terms c.index-step.result.now) c.in_ok-calls.calls) c.in_ok-arguments.ensures
    (c.in_ok-calls.ensures.step (λ values. true)
    (guarded_always (setting_of c.args.self.now) c.truth.new.dd.table c.index-step.result.now.legal c.in_ok-legal.legal
    c.in_ok-legal.ensures.truth)))

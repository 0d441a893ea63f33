use Rattle.std.proofs.Common.{◌≡◌, length, subst, arith}
use Rattle.std.proofs.lemmas.List.{length-map}
use Rattle.tm_dd.proofs.CallerLaws.{Extends-refl, Extends-trans}
use Rattle.tm_flat.specs.Flat.{flat_terms, step_terms}
use Rattle.tm_game_steps.specs.Inner.Pushed.{AreTaskSteps}
use Rattle.tm_game_steps.specs.Setting.{setting_of}
use Rattle.tm_game_steps.proofs.Pushing.{tasks_more, tasks_none}
use Rattle.tm_game_steps.proofs.encoding.Encoding.push_tasks.Goals as goal

pub loop-task-init : goal.loop-task-init
loop-task-init c = record {
  extends = Extends-refl c.args.dd.now.table;
  ready = c.requires.ready;
  below = tasks_none (setting_of c.args.self.now) (flat_terms c.args.flat.now) c.args.dd.now.table
      c.args.list.now.items;
}

pub task_step-requires-clause-task : goal.task_step-requires-clause-task
task_step-requires-clause-task c =
    omega (arith, length-map c.args.flat.now.tasks.items step_terms, c.args.flat.now.tasks.ok.0)

pub returns-in_err-step-clause-earlier : goal.returns-in_err-step-clause-earlier
returns-in_err-step-clause-earlier c =
    Extends-trans _ _ _ c.loop-task.invariant.extends c.task_step.ensures.earlier

pub returns-in_err-push-clause-earlier : goal.returns-in_err-push-clause-earlier
returns-in_err-push-clause-earlier c =
    Extends-trans _ _ _ c.loop-task.invariant.extends c.task_step.ensures.earlier

pub loop-task-preserved : goal.loop-task-preserved
loop-task-preserved c = record {
  extends = Extends-trans _ _ _ c.loop-task.invariant.extends c.task_step.ensures.earlier;
  ready = c.task_step.ensures.ready;
  below = tasks_more (setting_of c.args.self.now) (flat_terms c.args.flat.now) c.loop-task.dd.table
      c.task_step.new.dd.table c.args.list.now.items c.loop-task.list.items c.push.new.self.items c.loop-task.task
      c.in_ok-step.step c.task_step.ensures.earlier c.loop-task.invariant.below c.in_ok-step.ensures.step
      c.in_ok-push.ensures.items;
}

pub returns-clause-steps : goal.returns-clause-steps
returns-clause-steps c =
    let long = length-map c.args.flat.now.tasks.items step_terms in
    let all : c.loop-task.task ≡ length (flat_terms c.args.flat.now).tasks =
    omega (arith, long, c.args.flat.now.tasks.ok.0, c.loop-task.auto.task-end) in
    subst (AreTaskSteps (setting_of c.args.self.now) (flat_terms c.args.flat.now) c.loop-task.dd.table
    c.args.list.now.items c.loop-task.list.items) all c.loop-task.invariant.below

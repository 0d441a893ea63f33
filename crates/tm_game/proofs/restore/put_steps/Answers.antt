use Rattle.std.proofs.Common.{◌≡◌, ◌+◌, ◌≤◌, length, sym, ap, subst, arith}
use Rattle.tm_game_bits.specs.declared.step.StepDiagrams.{StepDiagrams}
use Rattle.tm_game.specs.Inner.Listed.{step_ids}
use Rattle.tm_game.specs.Inner.Restored.{SameStep, SameSteps, StandAt}
use Rattle.tm_game.proofs.Restoring.{put_all, put_first, put_more, put_within, written_back}
use Rattle.tm_game.proofs.restore.put_steps.Goals as goal

pub loop-step-init : goal.loop-step-init
loop-step-init c =
    put_first c.args.ids.now c.args.at c.args.steps.now.items c.deref_mut-step-items.result.now
    c.deref_mut-step-items.ensures.value

pub put_step-behind-requires : goal.put_step-behind-requires
put_step-behind-requires c =
    let within = put_within c.args.ids.now c.args.at c.args.steps.now.items c.loop-step.step-items
    c.loop-step.step-index c.loop-step.behind c.step-item.result
    (omega (arith, c.loop-step-test.true, c.loop-step.invariant.long, ap length c.deref_mut-step-items.ensures.value))
    c.step-item.is c.loop-step.invariant c.requires in
    subst (λ (x : StepDiagrams). c.loop-step.behind + length (step_ids x) ≤ length c.args.ids.now) c.step-item.is within

pub loop-step-preserved : goal.loop-step-preserved
loop-step-preserved c =
    put_more c.args.ids.now c.args.at c.args.steps.now.items c.loop-step.step-items c.loop-step.step-index
    c.loop-step.behind c.step-item.result
    (omega (arith, c.loop-step-test.true, c.loop-step.invariant.long, ap length c.deref_mut-step-items.ensures.value))
    c.step-item.is c.loop-step.invariant
    c.put_step-behind.new.step c.put_step-behind.result
    (subst (λ (x : StepDiagrams). c.put_step-behind.result ≡ c.loop-step.behind + length (step_ids x))
    (sym c.step-item.is) c.put_step-behind.ensures.at)
    (λ s t olds same stand.
    subst (λ (x : StepDiagrams). SameStep s x t c.put_step-behind.new.step) (sym c.step-item.is)
    (c.put_step-behind.ensures.same s t olds same
    (subst (λ (x : StepDiagrams). StandAt olds c.loop-step.behind (step_ids x)) c.step-item.is stand)))

pub returns-clause-same : goal.returns-clause-same
returns-clause-same c = λ s t olds same stand.
    subst (SameSteps s c.args.steps.now.items t)
    (sym (written_back c.loop-step.step-items c.args.steps.now.items c.args.steps.now.len
    c.loop-step.invariant.long (omega (arith, c.args.steps.now.ok.0))))
    (put_all c.args.ids.now c.args.at c.args.steps.now.items c.loop-step.step-items c.loop-step.step-index
    c.loop-step.behind
    (omega (arith, c.loop-step-test.false, c.loop-step.invariant.long, ap length c.deref_mut-step-items.ensures.value))
    c.loop-step.invariant s t olds same stand)

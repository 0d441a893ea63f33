use Rattle.std.proofs.Common.{◌≡◌, ℕ, ◌+◌, List, sym, subst, arith}
use Rattle.tm_syntax.specs.Design.View.{design_tree}
use Rattle.tm_flat.specs.declared.flat.FlatStep.{FlatStep}
use Rattle.tm_flat_states.specs.Marks.{MakesSuch}
use Rattle.tm_flat_moves.proofs.Picking.{turn_along}
use Rattle.tm_flat_design.specs.Making.{AreTasks}
use Rattle.tm_flat_design.proofs.Steps.{one_task_more}
use Rattle.tm_flat_design.proofs.tasks.task_steps.Goals as goal

pub loop-number-preserved : goal.loop-number-preserved
loop-number-preserved c =
    let d = design_tree c.args.tasks.now.design.now in
    subst (λ (xs : List FlatStep). MakesSuch c.args.course.now.terms c.task_step.new.course.terms
    (AreTasks d (c.loop-number.number + 1)) xs) (sym c.in_ok-push.ensures.items)
    (one_task_more c.args.course.now.terms c.loop-number.course.terms c.task_step.new.course.terms d
    c.loop-number.number c.loop-number.steps.items c.in_ok-step.step c.loop-number.invariant c.in_ok-step.ensures)

pub returns : goal.returns
returns c =
    let ends : c.loop-number.number ≡ c.args.count =
    omega (arith, c.loop-number.auto.number-end, c.loop-number-test.false) in
    subst (λ (n : ℕ). MakesSuch c.args.course.now.terms c.loop-number.course.terms
    (AreTasks (design_tree c.args.tasks.now.design.now) n) c.loop-number.steps.items) ends c.loop-number.invariant

pub task_step-requires-clause-turn : goal.task_step-requires-clause-turn
task_step-requires-clause-turn c =
    turn_along c.args.course.now.terms c.loop-number.course.terms (design_tree c.args.tasks.now.design.now) c.args.turn
    c.loop-number.invariant.grown c.requires.turn

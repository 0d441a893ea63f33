use Rattle.std.proofs.Common.{◌≡◌, ℕ, ◌+◌, List, sym, subst, arith}
use Rattle.tm_syntax.specs.Design.View.{design_tree}
use Rattle.tm_flat.specs.declared.flat.FlatStep.{FlatStep}
use Rattle.tm_flat_states.specs.Marks.{MakesSuch}
use Rattle.tm_flat_design.specs.Making.{AreSteps}
use Rattle.tm_flat_design.proofs.Steps.{one_more}
use Rattle.tm_flat_design.proofs.processes.location_steps.Goals as goal

pub loop-place-preserved : goal.loop-place-preserved
loop-place-preserved c =
    subst (λ (xs : List FlatStep). MakesSuch c.args.course.now.terms c.process_step.new.course.terms
    (AreSteps (design_tree c.args.mover.now.design.now) c.args.mover.now.process (c.loop-place.place + 1)) xs)
    (sym c.in_ok-push.ensures.items)
    (one_more c.args.course.now.terms c.loop-place.course.terms c.process_step.new.course.terms
    (design_tree c.args.mover.now.design.now) c.args.mover.now.process c.loop-place.place c.loop-place.steps.items
    c.in_ok-step.step c.loop-place.invariant c.in_ok-step.ensures)

pub returns : goal.returns
returns c =
    let ends : c.loop-place.place ≡ c.args.count =
    omega (arith, c.loop-place.auto.place-end, c.loop-place-test.false) in
    subst (λ (n : ℕ). MakesSuch c.args.course.now.terms c.loop-place.course.terms
    (AreSteps (design_tree c.args.mover.now.design.now) c.args.mover.now.process n) c.loop-place.steps.items) ends
    c.loop-place.invariant

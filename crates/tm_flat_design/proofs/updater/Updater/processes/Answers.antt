use Rattle.std.proofs.Common.{◌≡◌, ℕ, ◌+◌, List, length, refl, sym, subst, arith}
use Rattle.std.specs.declared.alloc.Global.{Global}
use Rattle.std.specs.declared.vec.Vec.{Vec}
use Rattle.tm_syntax.specs.Design.Locations.{end_number}
use Rattle.tm_syntax.specs.Design.View.{design_tree}
use Rattle.tm_flat.specs.declared.flat.FlatStep.{FlatStep}
use Rattle.tm_flat_states.specs.Marks.{MakesSuch}
use Rattle.tm_flat_design.specs.Making.{AreProcesses}
use Rattle.tm_flat_design.proofs.Steps.{one_process_more, over_later}
use Rattle.tm_flat_design.proofs.updater.Updater.processes.Goals as goal

pub steps_of-requires-clause-terms : goal.steps_of-requires-clause-terms
steps_of-requires-clause-terms c =
    over_later c.args.self.now.design.now c.args.course.now.terms c.loop-number.course.terms
    c.loop-number.invariant.grown c.loop-number.invariant.sound c.requires.terms

pub loop-number-preserved : goal.loop-number-preserved
loop-number-preserved c =
    let d = design_tree c.args.self.now.design.now in
    subst (λ (all : List (Vec FlatStep Global)). MakesSuch c.args.course.now.terms c.steps_of.new.course.terms
    (AreProcesses d (c.loop-number.number + 1)) all) (sym c.in_ok-push.ensures.items)
    (one_process_more c.args.course.now.terms c.loop-number.course.terms c.steps_of.new.course.terms d
    c.loop-number.number (end_number d c.loop-number.number + 1) c.loop-number.all.items c.in_ok-steps.steps
    c.loop-number.invariant refl c.in_ok-steps.ensures)

pub returns : goal.returns
returns c =
    let ends : c.loop-number.number ≡ length c.args.self.now.design.now.processes.items =
    omega (arith, c.loop-number.auto.number-end, c.loop-number-test.false) in
    subst (λ (n : ℕ). MakesSuch c.args.course.now.terms c.loop-number.course.terms
    (AreProcesses (design_tree c.args.self.now.design.now) n) c.loop-number.all.items) ends c.loop-number.invariant

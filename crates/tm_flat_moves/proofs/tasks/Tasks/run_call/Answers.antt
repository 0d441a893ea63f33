use Rattle.std.proofs.Common.{◌+◌, ◌<◌, ◌^◌, sym, ◌∙◌, subst, arith}
use Rattle.tm_syntax.specs.declared.design.Design.{Design}
use Rattle.tm_syntax.specs.Design.View.{design_tree}
use Rattle.tm_flat.specs.Inputs.{first_choice, room}
use Rattle.tm_flat_exprs.specs.Tables.{cells_of}
use Rattle.tm_flat_moves.proofs.Standing.{site_there}
use Rattle.tm_flat_moves.proofs.tasks.Tasks.run_call.Goals as goal

pub first-requires : goal.first-requires
first-requires c =
    let few : first_choice (design_tree c.args.self.now.design.now) + (room + room) < 2 ^ 32 =
    subst (λ (d : Design). first_choice (design_tree d) + (room + room) < 2 ^ 32) c.requires.design
    c.requires.callable.few in
    omega (arith, few)

pub walker-walker-requires : goal.walker-walker-requires
walker-walker-requires c = c.first.ensures ∙ (λ i. first_choice (design_tree (sym c.requires.design i)))

pub unreachable-requires : goal.unreachable-requires
unreachable-requires c =
    let m = c.args.mover.now in
    site_there (cells_of m.design.now) (design_tree m.design.now) c.args.called.now.at c.args.called.now.task.now
    c.requires.callable.readable c.in-None.ensures.none

pub run_in-requires-clause-walker : goal.run_in-requires-clause-walker
run_in-requires-clause-walker c = c.walker-walker.ensures

pub run_in-requires-clause-stand : goal.run_in-requires-clause-stand
run_in-requires-clause-stand c = c.in-Some.ensures.found

pub returns : goal.returns
returns c = c.in_ok-run_in-in-Some.ensures

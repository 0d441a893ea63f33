use Rattle.std.proofs.Common.{◌≡◌, length, ◌∙◌, subst, arith}
use Rattle.tm_syntax.specs.declared.design.Design.{Design}
use Rattle.tm_plain.specs.Machine.{IsRunnable}
use Rattle.tm_plain.proofs.Fitness.{places_are_few}
use Rattle.tm_plain.proofs.machine.Machine.run_process.Goals as goal

pub prove-unreachable-requires : goal.prove-unreachable-requires
prove-unreachable-requires c =
    let d = c.args.self.now in
    let all = c.self.inside.locations in
    let count : all.len ≡ length d.processes.items =
    subst (λ (d : Design). all.len ≡ length d.processes.items) c.self.view_is (all.ok.0 ∙ c.self.invariant.2.are) in
    omega (arith, count, c.requires, c.len.ensures)

pub overflow_add-process : goal.overflow_add-process
overflow_add-process c =
    let few = (places_are_few c.args.self.now (subst IsRunnable c.self.view_is c.self.invariant.1)).processes in
    omega (arith, few, c.requires)

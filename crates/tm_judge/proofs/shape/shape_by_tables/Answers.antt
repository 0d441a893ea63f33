use Rattle.std.proofs.Common.{length, sym, subst, arith}
use Rattle.tm_syntax.specs.declared.design.Design.{Design}
use Rattle.tm_syntax.specs.Design.View.{design_tree}
use Rattle.tm_syntax.specs.Faults.{IsSound}
use Rattle.tm_plain.specs.Machine.{AreLocated}
use Rattle.tm_judge.proofs.Locating.{few_goals_of, located}
use Rattle.tm_judge.proofs.shape.shape_by_tables.Goals as goal

pub state_bits-bits-requires-clause-locations : goal.state_bits-bits-requires-clause-locations
state_bits-bits-requires-clause-locations c =
    let ts = c.in-Ok.locations.items in
    located c.design-design.result.now ts c.as_slice.result.now c.as_slice.ensures.value
    (subst (λ (d : Design). AreLocated d (length d.processes.items) ts) (sym c.design-design.ensures)
    c.in-Ok.ensures)

pub overflow_cast-result : goal.overflow_cast-result
overflow_cast-result c =
    let few = few_goals_of c.design-design.result.now
    (subst (λ (d : Design). IsSound (design_tree d)) (sym c.design-design.ensures) c.requires) in
    omega (arith, few, c.len.ensures)

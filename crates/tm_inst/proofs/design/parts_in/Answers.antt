use Rattle.std.proofs.Common.{sym, subst}
use Rattle.tm_syntax.specs.Tree.View.{spec_tree}
use Rattle.tm_syntax.specs.Faults.{HasTreeFault}
use Rattle.tm_limits.specs.TemplateOrders.{IsTemplateOrder}
use Rattle.tm_inst.proofs.Told.{cycle_told}
use Rattle.tm_inst.proofs.design.parts_in.Goals as goal

pub returns-in_ok-template_cycle-in-Cyclic-clause-faulty :
    goal.returns-in_ok-template_cycle-in-Cyclic-clause-faulty
returns-in_ok-template_cycle-in-Cyclic-clause-faulty c =
    let first = subst (λ o. IsTemplateOrder c.args.scopes.now o) c.in-Cyclic.is c.in_ok-name.ensures in
    subst (HasTreeFault (spec_tree c.args.scopes.now)) (sym c.in_ok-template_cycle-in-Cyclic.ensures)
    (cycle_told (spec_tree c.args.scopes.now) c.requires.typed c.in-Cyclic.name.now first)

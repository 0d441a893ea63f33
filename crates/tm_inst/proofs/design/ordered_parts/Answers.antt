use Rattle.std.proofs.Common.{Option, List, sym, subst}
use Rattle.tm_syntax.specs.declared.fault.Faulty.{Faulty}
use Rattle.tm_syntax.specs.declared.member.Member.{Member}
use Rattle.tm_syntax.specs.Tree.{SpecTree}
use Rattle.tm_syntax.specs.Tree.View.{spec_tree}
use Rattle.tm_syntax.specs.Faults.{HasTreeFault}
use Rattle.tm_scope.specs.CallOrder.{CoversTasks}
use Rattle.tm_limits.specs.FirstLimit.{IsFirstLimit}
use Rattle.tm_inst.proofs.Told.{limit_told}
use Rattle.tm_inst.proofs.design.ordered_parts.Goals as goal

pub returns-in-Some-clause-faulty : goal.returns-in-Some-clause-faulty
returns-in-Some-clause-faulty c =
    let spec : SpecTree = spec_tree c.args.scopes.now in
    let found = subst (λ (o : Option Faulty). IsFirstLimit spec o) c.in-Some.is c.in_ok-fault.ensures in
    subst (HasTreeFault spec) (sym found.2)
    (limit_told spec c.requires.typed found.0 c.requires.ordered.acyclic found.1)

pub counted_parts-requires-clause-covers : goal.counted_parts-requires-clause-covers
counted_parts-requires-clause-covers c =
    subst (λ (calls : List Member). CoversTasks (spec_tree c.args.scopes.now) calls)
    (sym c.as_slice-in-None.ensures.value) c.in_ok-calls.ensures.covers

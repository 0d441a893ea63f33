use Rattle.std.proofs.Common.{arith, List, [], ◌∷◌, ◌++◌, ap, ◌∙◌}
use Rattle.tm_dd.specs.declared.node.NodeId.{NodeId}
use Rattle.tm_solve.proofs.SafetySteps.{single_more, single_all}
use Rattle.tm_solve.proofs.safety.single_chains.Goals as goal

pub loop-made-preserved : goal.loop-made-preserved
loop-made-preserved c =
    single_more c.args.set c.loop-made._made c.loop-made.chains.items _ _ c.loop-made.invariant
    (c.in_ok-push.ensures.items ∙ ap (λ (l : List NodeId). l ++ c.args.set ∷ []) c.new-sets.ensures.items)
    c.in_ok-push-2.ensures.items

pub returns : goal.returns
returns c = single_all c.loop-made.invariant (omega arith)

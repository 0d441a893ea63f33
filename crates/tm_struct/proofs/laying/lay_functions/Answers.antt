use Rattle.std.proofs.Common.{ℕ, List, subst, arith}
use Rattle.tm_cir.specs.View.{block_trees}
use Rattle.tm_struct.specs.View.{action_tree}
use Rattle.tm_struct.specs.Inner.Laying.{IsLaid}
use Rattle.tm_struct.proofs.Laid.{functions_more}
use Rattle.tm_struct.proofs.laying.lay_functions.Goals as goal

pub loop-function-preserved : goal.loop-function-preserved
loop-function-preserved c =
    functions_more (block_trees c.loop-function.laid.items) (block_trees c.lay.new.laid.items)
    c.loop-function.starts.items c.push.new.self.items c.args.functions.now c.loop-function.function-index
    c.in_ok-start.start c.function-item.result c.loop-function.invariant
    (subst
    (λ (l : List ℕ).
    IsLaid (block_trees c.loop-function.laid.items) (block_trees c.lay.new.laid.items) l c.in_ok-start.start
    (action_tree c.function-item.result)) c.deref.ensures.value c.in_ok-start.ensures) c.in_ok-push.ensures.items
    (omega (arith, c.loop-function-test.true)) c.function-item.is

use Rattle.std.proofs.Common.{ℕ, List, Some, length, get_or, sym, ap, subst, ◌∙◌, arith}
use Rattle.std.proofs.lemmas.Option.{slice_get-get_or}
use Rattle.tm_cir.specs.View.{block_trees}
use Rattle.tm_struct.specs.Inner.Naming.{AreNumbers}
use Rattle.tm_struct.proofs.Filled.{one_filled}
use Rattle.tm_struct.proofs.shaping.functions.Goals as goal

pub loop-at-preserved : goal.loop-at-preserved
loop-at-preserved c =
    one_filled (block_trees c.args.blocks.now) c.args.naming.now.order.items c.loop-at.at-index
    (get_or c.deref-at-items.result.now c.loop-at.at-index 0) c.loop-at.functions.items c.push.new.self.items _
    c.loop-at.invariant c.in_ok-push.ensures.items
    (slice_get-get_or c.args.naming.now.order.items c.loop-at.at-index 0
    (omega (arith, ap length c.deref-at-items.ensures.value))
    ∙ ap (λ (l : List ℕ). Some (get_or l c.loop-at.at-index 0)) (sym c.deref-at-items.ensures.value))
    (c.in_ok-tree.ensures c.args.naming.now.order.items
    (subst (AreNumbers c.args.naming.now.order.items) (sym c.deref.ensures.value) c.requires.numbers))

use Rattle.std.proofs.Common.{◌≡◌, ℕ, subst, arith}
use Rattle.tm_cir.specs.View.{block_trees}
use Rattle.tm_struct.specs.Inner.Naming.{AreNamedFrom}
use Rattle.tm_struct.proofs.naming.named.Goals as goal

pub returns : goal.returns
returns c =
    let none_left : c.loop-at.at ≡ 0 = omega (arith, c.loop-at-test.false) in
    subst
    (λ (n : ℕ).
    AreNamedFrom (block_trees c.args.blocks.now) c.args.reaches.now n c.loop-at.naming.order.items
    c.loop-at.naming.numbers.items) none_left c.loop-at.invariant.so_far

use Rattle.std.proofs.Common.{◌≡◌, subst, arith}
use Rattle.tm_blast.proofs.Places.{ArePlaced, placed_more, placed_all}
use Rattle.tm_blast.proofs.place.placed.Goals as goal

pub loop-weight-preserved : goal.loop-weight-preserved
loop-weight-preserved c s known =
    placed_more c.args.low c.args.width c.args.a.now c.loop-weight.bits.items c.loop-weight.weight c.placed_bit.result s
    c.loop-weight-test.true known (c.loop-weight.invariant s known)
    record { below = c.placed_bit.ensures.below; there = c.placed_bit.ensures.there } c.push.new.self.items
    c.in_ok-push.ensures.items

pub returns : goal.returns
returns c s known =
    let end : c.loop-weight.weight ≡ c.args.width =
    omega (arith, c.loop-weight-test.false, c.loop-weight.auto.weight-end) in
    placed_all c.args.low c.args.width c.args.a.now c.loop-weight.bits.items s
    (subst (λ i. ArePlaced c.args.low c.args.width c.args.a.now c.loop-weight.bits.items i s) end
    (c.loop-weight.invariant s known))

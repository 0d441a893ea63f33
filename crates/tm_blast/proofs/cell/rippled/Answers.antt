use Rattle.std.proofs.Common.{subst, sym, arith, ◌+◌}
use Rattle.tm_dd.specs.declared.node.NodeId.{NodeId}
use Rattle.tm_ddops.specs.Manager.{Diagrams}
use Rattle.tm_blast.proofs.Rows.{IsRippled, x_known_here, y_known_here, rippled_last, rippled_more}
use Rattle.tm_blast.proofs.cell.rippled.Goals as goal
use Rattle.tm_blast.proofs.cell.rippled.Goals.{then-i-a+in_ok-carry, else-i-a}

pub bit-requires-clause-carry : goal.bit-requires-clause-carry
bit-requires-clause-carry c = c.loop-i.invariant.carry_known

pub bit-requires-clause-x : goal.bit-requires-clause-x
bit-requires-clause-x c =
    x_known_here _ _ _ _ _ _ _ _ _ _ c.loop-i.invariant c.loop-i-test.true c.requires.same c.requires.a c.requires.b

pub bit-requires-clause-y : goal.bit-requires-clause-y
bit-requires-clause-y c =
    y_known_here _ _ _ _ _ _ _ _ _ _ c.loop-i.invariant c.loop-i-test.true c.requires.same c.requires.a c.requires.b

pub loop-i-preserved : goal.loop-i-preserved
loop-i-preserved c =
    let s = c.args.dd.now.table in
    let whole : Diagrams → NodeId → Type 0 =
    λ m carry. IsRippled c.args.cell s m.table c.args.carry carry c.args.a.now c.args.b.now c.push.new.self.items
    (c.loop-i.i + 1) in
    elim c.if-i-a.branch [
      | then-i-a+in_ok-carry w ↦
          subst (λ m. whole m c.if-i-a.carry) (sym w.dd-is) (subst (whole w.next.new.dd) (sym w.carry-is)
          (rippled_more c.args.cell s c.loop-i.dd.table c.args.carry c.loop-i.carry c.args.a.now c.args.b.now
          c.loop-i.bits.items c.loop-i.i _ c.loop-i.invariant c.loop-i-test.true c.requires.same c.requires.a
          c.requires.b c.bit.new.dd.table c.in_ok-bit.ensures.extends c.in_ok-bit.bit c.in_ok-bit.ensures.answer
          w.next.new.dd.table w.in_ok-carry.carry w.in_ok-carry.ensures.extends w.in_ok-carry.ensures.answer
          c.push.new.self.items c.in_ok-push.ensures.items))
      | else-i-a w ↦
          subst (λ m. whole m c.if-i-a.carry) (sym w.dd-is) (subst (whole c.bit.new.dd) (sym w.carry-is)
          (rippled_last c.args.cell s c.loop-i.dd.table c.args.carry c.loop-i.carry c.args.a.now c.args.b.now
          c.loop-i.bits.items c.loop-i.i _ c.loop-i.invariant c.loop-i-test.true c.requires.same c.requires.a
          c.requires.b c.bit.new.dd.table c.in_ok-bit.ensures.extends c.in_ok-bit.bit c.in_ok-bit.ensures.answer
          c.push.new.self.items c.in_ok-push.ensures.items (omega (arith, w.if-i-a.false))))
    ]

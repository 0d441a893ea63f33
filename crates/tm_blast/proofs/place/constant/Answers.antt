use Rattle.std.proofs.Common.{[], ◌∷◌, ◌++◌, sym, ap, ◌∙◌, subst}
use Rattle.tm_blast.proofs.Places.{IsConstant, constant-first, constant_more, constant_all}
use Rattle.tm_blast.proofs.place.constant.Goals as goal

pub loop-bit-init : goal.loop-bit-init
loop-bit-init c s =
    subst (λ zs. IsConstant c.args.width c.args.number c.args.number zs 0 s) (sym c.new-bits.ensures.items)
    (constant-first c.args.width c.args.number s)

pub loop-bit-preserved : goal.loop-bit-preserved
loop-bit-preserved c s =
    constant_more c.args.width c.args.number c.loop-bit.left c.loop-bit.bits.items c.loop-bit._bit s
    c.loop-bit-test.true (c.loop-bit.invariant s) c.push.new.self.items
    (c.in_ok-push.ensures.items ∙ ap (λ id. c.loop-bit.bits.items ++ id ∷ []) c.constant_bit.ensures)

pub returns : goal.returns
returns c s =
    constant_all c.args.width c.args.number c.loop-bit.left c.loop-bit.bits.items c.loop-bit._bit s
    c.loop-bit-test.false (c.loop-bit.invariant s)

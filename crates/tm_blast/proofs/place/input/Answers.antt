use Rattle.std.proofs.Common.{inl, refl, arith}
use Rattle.tm_blast.proofs.Places.{input_more}
use Rattle.tm_blast.proofs.place.input.Goals as goal

pub make-requires-clause-lo_deeper : goal.make-requires-clause-lo_deeper
make-requires-clause-lo_deeper c = inl (omega arith)

pub make-requires-clause-hi_deeper : goal.make-requires-clause-hi_deeper
make-requires-clause-hi_deeper c = inl (omega arith)

pub loop-i-preserved : goal.loop-i-preserved
loop-i-preserved c =
    input_more c.args.dd.now.table c.loop-i.dd.table c.make.new.self.table c.args.levels.now c.loop-i.bits.items
    c.loop-i.i _ c.in_ok-bit.bit c.loop-i-test.true c.loop-i.invariant refl c.make.ensures.grows.extends
    c.in_ok-bit.ensures.answer c.push.new.self.items c.in_ok-push.ensures.items

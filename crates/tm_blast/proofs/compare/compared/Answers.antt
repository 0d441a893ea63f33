use Rattle.tm_blast.proofs.Rows.{x_compared, y_compared, compared_more}
use Rattle.tm_blast.proofs.compare.compared.Goals as goal

pub bit-requires-clause-below : goal.bit-requires-clause-below
bit-requires-clause-below c = c.loop-i.invariant.known

pub bit-requires-clause-x : goal.bit-requires-clause-x
bit-requires-clause-x c =
    x_compared _ _ _ _ _ _ _ _ _ c.loop-i.invariant c.loop-i-test.true c.requires.same c.requires.a c.requires.b

pub bit-requires-clause-y : goal.bit-requires-clause-y
bit-requires-clause-y c =
    y_compared _ _ _ _ _ _ _ _ _ c.loop-i.invariant c.loop-i-test.true c.requires.same c.requires.a c.requires.b

pub loop-i-preserved : goal.loop-i-preserved
loop-i-preserved c =
    compared_more c.args.op c.args.dd.now.table c.loop-i.dd.table c.args.first c.loop-i.found c.args.a.now c.args.b.now
    c.loop-i.i _ c.loop-i.invariant c.loop-i-test.true c.requires.same c.requires.a c.requires.b c.bit.new.dd.table
    c.in_ok-found.found c.in_ok-found.ensures.extends c.in_ok-found.ensures.answer

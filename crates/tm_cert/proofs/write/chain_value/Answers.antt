use Rattle.tm_cert.specs.Written.{number_data}
use Rattle.tm_cert.proofs.Writing.{written_all, written_more}
use Rattle.tm_cert.proofs.write.chain_value.Goals as goal

pub loop-id-preserved : goal.loop-id-preserved
loop-id-preserved c =
    written_more number_data c.args.chain.now c.loop-id.id-index _ c.loop-id.items.items _ _
    c.loop-id.invariant c.loop-id-test.true c.from.ensures c.in_ok-push.ensures.items

pub returns : goal.returns
returns c =
    written_all number_data c.args.chain.now c.loop-id.id-index c.loop-id.items c.loop-id.invariant
    c.loop-id-test.false

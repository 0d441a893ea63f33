use Rattle.tm_cert.specs.Written.{entry_data}
use Rattle.tm_cert.proofs.Writing.{written_all, written_more}
use Rattle.tm_cert.proofs.write.nodes_value.Goals as goal

pub loop-entry-preserved : goal.loop-entry-preserved
loop-entry-preserved c =
    written_more entry_data c.args.nodes.now c.loop-entry.entry-index _ c.loop-entry.items.items _ _
    c.loop-entry.invariant c.loop-entry-test.true c.in_ok-entry_value.ensures c.in_ok-push.ensures.items

pub returns : goal.returns
returns c =
    written_all entry_data c.args.nodes.now c.loop-entry.entry-index c.loop-entry.items c.loop-entry.invariant
    c.loop-entry-test.false

use Rattle.tm_cert.specs.Nodes.{entry_at}
use Rattle.tm_cert.specs.Path.{path_text}
use Rattle.tm_cert.proofs.Judging.{each-found, each-refused}
use Rattle.tm_cert.proofs.nodes.read_entries.Goals as goal

pub loop-value-preserved : goal.loop-value-preserved
loop-value-preserved c =
    let judge = entry_at (path_text c.args.path.now) c.args.bits in
    let entry = c.in-Ok.ensures.ok in
    each-found judge _ _ _ c.args.entries.now c.loop-value.value-index c.value-item.result entry.0
    c.loop-value.invariant c.loop-value-test.true c.value-item.is entry.1 entry.2

pub returns-in-Err-clause-refused : goal.returns-in-Err-clause-refused
returns-in-Err-clause-refused c =
    each-refused (entry_at (path_text c.args.path.now) c.args.bits) _ _ c.args.entries.now
    c.loop-value.value-index c.value-item.result _ c.loop-value.invariant c.loop-value-test.true c.value-item.is
    c.in-Err.ensures.refused

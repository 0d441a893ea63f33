use Rattle.std.proofs.Common.{ap, arith}
use Rattle.tm_syntax.specs.Design.View.{design_tree}
use Rattle.tm_report.specs.Report.{add_line}
use Rattle.tm_report.proofs.Putting.{one_text_more, text_failed}
use Rattle.tm_report.proofs.trace.put_additions.Goals as goal

pub loop-added-preserved : goal.loop-added-preserved
loop-added-preserved g c =
    let more = one_text_more (add_line (design_tree c.args.design.now)) c.args.additions.now g.O.Sink c.args.out.now
    c.loop-added.out c.put_added.new.out c.loop-added.added-index _ _
    (ap (add_line (design_tree c.args.design.now)) c.added-item.is) c.loop-added.invariant.written
    c.loop-added.invariant.faults (omega (arith, c.loop-added-test.true)) c.put_added.result _ c.in-Ok.is
    c.put_added.ensures in
    record { written = more.0; faults = more.1 }

pub returns-in-Err : goal.returns-in-Err
returns-in-Err g c =
    text_failed (add_line (design_tree c.args.design.now)) c.args.additions.now g.O.Sink c.args.out.now
    c.loop-added.out c.put_added.new.out c.loop-added.added-index _ _
    (ap (add_line (design_tree c.args.design.now)) c.added-item.is) c.loop-added.invariant.written
    c.loop-added.invariant.faults (omega (arith, c.loop-added-test.true)) c.put_added.result c.in-Err.failure
    c.in-Err.is c.put_added.ensures

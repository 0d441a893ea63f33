use Rattle.std.proofs.Common.{List, subst}
use Rattle.std.specs.List.{flat_map}
use Rattle.tm_refine.specs.declared.trace.Added.{Added}
use Rattle.tm_report.specs.Output.{sink_data}
use Rattle.tm_report.specs.Putting.{HasPut}
use Rattle.tm_report.specs.Report.{add_line, track_line}
use Rattle.tm_report.proofs.Putting.{put_less, then_put}
use Rattle.tm_syntax.specs.Design.View.{design_tree}
use Rattle.tm_report.proofs.trace.put_trace.Goals as goal

pub returns-in-Ok : goal.returns-in-Ok
returns-in-Ok g c =
    then_put g.O.Sink c.args.out.now c.put_first.new.out c.put_additions.new.out (track_line c.args.trace.now.first)
    (flat_map (add_line (design_tree c.args.design.now)) c.args.trace.now.added.items) c.put_additions.result
    c.in-Ok.ensures.whole c.put_first.ensures.no_fewer_faults
    (subst
    (λ (xs : List Added). HasPut (flat_map (add_line (design_tree c.args.design.now)) xs)
    (sink_data g.O.Sink c.put_first.new.out) (sink_data g.O.Sink c.put_additions.new.out) c.put_additions.result)
    c.deref.ensures.value c.put_additions.ensures)

pub returns-in-Err : goal.returns-in-Err
returns-in-Err g c =
    put_less (track_line c.args.trace.now.first)
    (flat_map (add_line (design_tree c.args.design.now)) c.args.trace.now.added.items)
    (sink_data g.O.Sink c.args.out.now) (sink_data g.O.Sink c.put_first.new.out) c.in-Err.failure c.in-Err.ensures.cut
    c.in-Err.ensures.failure c.put_first.ensures.no_fewer_faults

use Rattle.tm_syntax.specs.Design.View.{design_tree}
use Rattle.tm_report.specs.Report.{numbers_line, trace_text}
use Rattle.tm_report.specs.Output.{sink_data}
use Rattle.tm_report.proofs.Putting.{put_less, then_put}
use Rattle.tm_report.proofs.synthesis.put_tracked_environment.Goals as goal

pub returns-in-Ok : goal.returns-in-Ok
returns-in-Ok g c =
    then_put g.O.Sink c.args.out.now c.put_trace.new.out c.put_numbers.new.out
    (trace_text (design_tree c.args.design.now) c.args.trace.now)
    (numbers_line c.args.levels c.args.conditions c.args.chain)
    c.put_numbers.result c.in-Ok.ensures.whole c.put_trace.ensures.no_fewer_faults c.put_numbers.ensures

pub returns-in-Err : goal.returns-in-Err
returns-in-Err g c =
    put_less (trace_text (design_tree c.args.design.now) c.args.trace.now)
    (numbers_line c.args.levels c.args.conditions c.args.chain)
    (sink_data g.O.Sink c.args.out.now) (sink_data g.O.Sink c.put_trace.new.out) c.in-Err.failure c.in-Err.ensures.cut
    c.in-Err.ensures.failure c.put_trace.ensures.no_fewer_faults

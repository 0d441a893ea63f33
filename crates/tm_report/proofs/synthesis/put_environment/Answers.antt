use Rattle.std.proofs.Common.{◌++◌}
use Rattle.std.specs.Prelude.{codes}
use Rattle.tm_syntax.specs.Design.View.{design_tree}
use Rattle.tm_report.specs.Report.{numbers_line, trace_text}
use Rattle.tm_report.specs.Output.{sink_data}
use Rattle.tm_report.proofs.Putting.{put_less, then_put}
use Rattle.tm_report.proofs.synthesis.put_environment.Goals as goal

pub returns-in-Ok : goal.returns-in-Ok
returns-in-Ok g c =
    then_put g.O.Sink c.args.out.now c.put_line.new.out c.put_tracked_environment.new.out (codes "environment\n")
    (trace_text (design_tree c.args.design.now) c.args.trace.now
    ++ numbers_line c.args.levels c.args.conditions c.args.chain)
    c.put_tracked_environment.result c.in-Ok.ensures.ok c.put_line.ensures.no_fewer_faults
    c.put_tracked_environment.ensures

pub returns-in-Err : goal.returns-in-Err
returns-in-Err g c =
    put_less (codes "environment\n")
    (trace_text (design_tree c.args.design.now) c.args.trace.now
    ++ numbers_line c.args.levels c.args.conditions c.args.chain)
    (sink_data g.O.Sink c.args.out.now) (sink_data g.O.Sink c.put_line.new.out) c.in-Err.failure c.in-Err.ensures.err
    c.in-Err.ensures.failure c.put_line.ensures.no_fewer_faults

use Rattle.std.proofs.Common.{◌++◌, length}
use Rattle.std.specs.Prelude.{codes}
use Rattle.tm_syntax.specs.Design.View.{design_tree}
use Rattle.tm_report.specs.Report.{goal_line, nodes_line, trace_text}
use Rattle.tm_report.specs.Output.{sink_data}
use Rattle.tm_report.proofs.Putting.{lines_below, put_less, then_put}
use Rattle.tm_report.proofs.synthesis.put_driver.Goals as goal

pub returns-in-Ok : goal.returns-in-Ok
returns-in-Ok g c =
    then_put g.O.Sink c.args.out.now c.put_line.new.out c.put_tracked_driver.new.out (codes "driver\n")
    (trace_text (design_tree c.args.design.now) c.args.trace.now
    ++ (lines_below (goal_line (design_tree c.args.design.now) c.args.ranks.now) (length c.args.ranks.now)
    ++ nodes_line c.args.nodes))
    c.put_tracked_driver.result c.in-Ok.ensures.ok c.put_line.ensures.no_fewer_faults c.put_tracked_driver.ensures

pub returns-in-Err : goal.returns-in-Err
returns-in-Err g c =
    put_less (codes "driver\n")
    (trace_text (design_tree c.args.design.now) c.args.trace.now
    ++ (lines_below (goal_line (design_tree c.args.design.now) c.args.ranks.now) (length c.args.ranks.now)
    ++ nodes_line c.args.nodes))
    (sink_data g.O.Sink c.args.out.now) (sink_data g.O.Sink c.put_line.new.out) c.in-Err.failure c.in-Err.ensures.err
    c.in-Err.ensures.failure c.put_line.ensures.no_fewer_faults

use Rattle.std.proofs.Common.{length}
use Rattle.tm_syntax.specs.Design.View.{design_tree}
use Rattle.tm_report.specs.Report.{goal_line, nodes_line}
use Rattle.tm_report.specs.Output.{sink_data}
use Rattle.tm_report.proofs.Putting.{lines_below, put_less, then_put}
use Rattle.tm_report.proofs.synthesis.put_goals_and_nodes.Goals as goal

pub returns-in-Ok : goal.returns-in-Ok
returns-in-Ok g c =
    then_put g.O.Sink c.args.out.now c.put_goals.new.out c.put_nodes.new.out
    (lines_below (goal_line (design_tree c.args.design.now) c.args.ranks.now) (length c.args.ranks.now))
    (nodes_line c.args.nodes) c.put_nodes.result c.in-Ok.ensures.whole c.put_goals.ensures.no_fewer_faults
    c.put_nodes.ensures

pub returns-in-Err : goal.returns-in-Err
returns-in-Err g c =
    put_less (lines_below (goal_line (design_tree c.args.design.now) c.args.ranks.now) (length c.args.ranks.now))
    (nodes_line c.args.nodes)
    (sink_data g.O.Sink c.args.out.now) (sink_data g.O.Sink c.put_goals.new.out) c.in-Err.failure c.in-Err.ensures.cut
    c.in-Err.ensures.failure c.put_goals.ensures.no_fewer_faults

use Rattle.std.proofs.Common.{length}
use Rattle.std.specs.Prelude.{codes}
use Rattle.tm_syntax.specs.Design.View.{design_tree}
use Rattle.tm_report.specs.Report.{goal_line}
use Rattle.tm_report.specs.Output.{sink_data}
use Rattle.tm_report.proofs.Putting.{lines_below, put_less, then_put}
use Rattle.tm_report.proofs.verdict.put_accepted.Goals as goal

pub returns-in-Ok : goal.returns-in-Ok
returns-in-Ok g c =
    then_put g.O.Sink c.args.out.now c.put_line.new.out c.put_goals.new.out (codes "accepted driver\n")
    (lines_below (goal_line (design_tree c.args.design.now) c.args.ranks.now) (length c.args.ranks.now))
    c.put_goals.result c.in-Ok.ensures.ok c.put_line.ensures.no_fewer_faults c.put_goals.ensures

pub returns-in-Err : goal.returns-in-Err
returns-in-Err g c =
    put_less (codes "accepted driver\n")
    (lines_below (goal_line (design_tree c.args.design.now) c.args.ranks.now) (length c.args.ranks.now))
    (sink_data g.O.Sink c.args.out.now) (sink_data g.O.Sink c.put_line.new.out) c.in-Err.failure c.in-Err.ensures.err
    c.in-Err.ensures.failure c.put_line.ensures.no_fewer_faults

use Rattle.std.proofs.Common.{length, arith}
use Rattle.tm_syntax.specs.Design.View.{design_tree}
use Rattle.tm_report.specs.Report.{goal_line}
use Rattle.tm_report.proofs.Putting.{all_lines, line_failed, one_line_more}
use Rattle.tm_report.proofs.verdict.put_goals.Goals as goal

pub loop-goal-preserved : goal.loop-goal-preserved
loop-goal-preserved g c =
    let more = one_line_more (goal_line (design_tree c.args.design.now) c.args.ranks.now) g.O.Sink c.args.out.now
    c.loop-goal.out c.put_goal.new.out c.loop-goal.goal c.loop-goal.invariant.written c.loop-goal.invariant.faults
    c.put_goal.result _ c.in-Ok.is c.put_goal.ensures in
    record { written = more.0; faults = more.1 }

pub returns-in-Err : goal.returns-in-Err
returns-in-Err g c =
    line_failed (goal_line (design_tree c.args.design.now) c.args.ranks.now) g.O.Sink c.args.out.now c.loop-goal.out
    c.put_goal.new.out c.loop-goal.goal c.loop-goal.invariant.written c.loop-goal.invariant.faults c.put_goal.result
    c.in-Err.failure c.in-Err.is (length c.args.ranks.now) (omega (arith, c.loop-goal-test.true)) c.put_goal.ensures

pub returns : goal.returns
returns g c =
    all_lines (goal_line (design_tree c.args.design.now) c.args.ranks.now) g.O.Sink c.args.out.now c.loop-goal.out
    c.loop-goal.goal c.loop-goal.invariant.written c.loop-goal.invariant.faults (length c.args.ranks.now)
    (omega (arith, c.loop-goal-test.false, c.loop-goal.auto.goal-end)) _

use Rattle.std.proofs.Common.{◌∙◌}
use Rattle.tm_report.specs.Report.{add_line}
use Rattle.tm_report.specs.Output.{sink_data}
use Rattle.tm_report.proofs.Putting.{line_put, memory_put}
use Rattle.tm_syntax.specs.Design.View.{design_tree}
use Rattle.tm_report.proofs.trace.put_added.Goals as goal

pub returns-in_default : goal.returns-in_default
returns-in_default g c =
    memory_put (add_line (design_tree c.args.design.now) c.args.added.now) (sink_data g.O.Sink c.args.out.now)

pub returns : goal.returns
returns g c =
    line_put c.deref.result.now (add_line (design_tree c.args.design.now) c.args.added.now)
    (sink_data g.O.Sink c.args.out.now) (sink_data g.O.Sink c.put_line.new.out) c.put_line.result
    (c.deref.ensures.value ∙ c.in-Ok.ensures) c.put_line.ensures.ok c.put_line.ensures.err c.put_line.ensures.failure
    c.put_line.ensures.no_fewer_faults

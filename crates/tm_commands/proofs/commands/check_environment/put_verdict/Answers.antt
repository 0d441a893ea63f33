use Rattle.std.proofs.Common.{sym, subst}
use Rattle.tm_syntax.specs.Design.View.{design_tree}
use Rattle.tm_verdict.specs.declared.verdict.Verdict.{Verdict}
use Rattle.tm_commands.specs.Check.{environment_text}
use Rattle.tm_report.specs.Output.{sink_data}
use Rattle.tm_report.specs.Putting.{HasPut}
use Rattle.tm_commands.proofs.commands.check_environment.put_verdict.Goals as goal

pub returns-in-Accepted : goal.returns-in-Accepted
returns-in-Accepted g c =
    subst (λ (v : Verdict). HasPut (environment_text (design_tree c.args.design.now) c.args.counts.levels
    c.args.counts.conditions c.args.counts.chain v)
    (sink_data g.O.Sink c.args.out.now) (sink_data g.O.Sink c.put_levels.new.out) c.put_levels.result)
    (sym c.in-Accepted.is) c.put_levels.ensures

pub returns-in-Refused : goal.returns-in-Refused
returns-in-Refused g c =
    subst (λ (v : Verdict). HasPut (environment_text (design_tree c.args.design.now) c.args.counts.levels
    c.args.counts.conditions c.args.counts.chain v)
    (sink_data g.O.Sink c.args.out.now) (sink_data g.O.Sink c.put_refused.new.out) c.put_refused.result)
    (sym c.in-Refused.is) c.put_refused.ensures

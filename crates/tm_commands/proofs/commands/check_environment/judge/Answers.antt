use Rattle.std.proofs.Common.{[], inl, refl, ◌∙◌}
use Rattle.tm_play.proofs.Putting.{cut_nothing}
use Rattle.tm_syntax.specs.Design.View.{design_tree}
use Rattle.tm_report.specs.Output.{sink_data}
use Rattle.tm_commands.proofs.Judging.{environment_cut, environment_judged}
use Rattle.tm_commands.proofs.commands.check_environment.judge.Goals as goal

pub returns-in_default-clause-cut : goal.returns-in_default-clause-cut
returns-in_default-clause-cut g c = ([], inl refl, λ told. cut_nothing (g.O.Sink.written c.args.out.now))

pub returns-in-Ok-put_verdict-clause-judged : goal.returns-in-Ok-put_verdict-clause-judged
returns-in-Ok-put_verdict-clause-judged g c =
    environment_judged (sink_data g.O.Sink c.args.out.now) (sink_data g.O.Sink c.put_verdict.new.out)
    c.put_verdict.result c.in-Ok.verdict (design_tree c.args.inputs.now.design) c.args.inputs.now.cert
    (record { is = c.in-Ok.ensures.verdict; only = c.in-Ok.ensures.only }) c.counts_of-counts.result.levels
    c.counts_of-counts.result.conditions c.counts_of-counts.result.chain c.counts_of-counts.ensures.levels
    (c.counts_of-counts.ensures.conditions ∙ c.requires.fairs)
    (c.counts_of-counts.ensures.chain (design_tree c.args.inputs.now.design))
    c.put_verdict.ensures _ c.in-Ok-put_verdict.is c.end_of.result c.end_of.ensures

pub returns-in-Err-clause-cut : goal.returns-in-Err-clause-cut
returns-in-Err-clause-cut g c =
    environment_cut (sink_data g.O.Sink c.args.out.now) (sink_data g.O.Sink c.put_verdict.new.out)
    c.put_verdict.result c.in-Ok.verdict (design_tree c.args.inputs.now.design) c.args.inputs.now.cert
    (record { is = c.in-Ok.ensures.verdict; only = c.in-Ok.ensures.only }) c.counts_of-counts.result.levels
    c.counts_of-counts.result.conditions c.counts_of-counts.result.chain c.counts_of-counts.ensures.levels
    (c.counts_of-counts.ensures.conditions ∙ c.requires.fairs)
    (c.counts_of-counts.ensures.chain (design_tree c.args.inputs.now.design))
    c.put_verdict.ensures c.in-Err.failure c.in-Err.is

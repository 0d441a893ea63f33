use Rattle.std.proofs.Common.{[], inl, refl, ◌∙◌}
use Rattle.tm_cir.specs.View.{trees_of}
use Rattle.tm_play.proofs.Putting.{cut_nothing}
use Rattle.tm_syntax.specs.Design.View.{design_tree}
use Rattle.tm_report.specs.Output.{sink_data}
use Rattle.tm_commands.proofs.Judging.{driver_cut, driver_judged, few_ranks, same_ranks}
use Rattle.tm_commands.proofs.commands.check_driver.judge.Goals as goal

pub returns-in_default-clause-cut : goal.returns-in_default-clause-cut
returns-in_default-clause-cut g c = ([], inl refl, λ told. cut_nothing (g.O.Sink.written c.args.out.now))

pub put_verdict-requires : goal.put_verdict-requires
put_verdict-requires g c =
    few_ranks (design_tree c.args.inputs.now.design) (trees_of c.args.inputs.now.blocks) c.args.inputs.now.cert
    c.requires c.deref.result.now (c.deref.ensures.value ∙ c.in-Ok-ranks_of.ensures)

pub returns-in-Ok-put_verdict-clause-judged : goal.returns-in-Ok-put_verdict-clause-judged
returns-in-Ok-put_verdict-clause-judged g c =
    driver_judged (sink_data g.O.Sink c.args.out.now) (sink_data g.O.Sink c.put_verdict.new.out) c.put_verdict.result
    c.in-Ok.verdict (design_tree c.args.inputs.now.design) (trees_of c.args.inputs.now.blocks)
    c.args.inputs.now.cert (record { is = c.in-Ok.ensures.verdict; only = c.in-Ok.ensures.only })
    c.deref.result.now (c.deref.ensures.value ∙ c.in-Ok-ranks_of.ensures) c.put_verdict.ensures _
    c.in-Ok-put_verdict.is c.end_of.result
    (same_ranks c.end_of.result c.in-Ok-ranks_of.ranks.items c.deref.result.now c.in-Ok.verdict c.deref.ensures.value
    c.end_of.ensures)

pub returns-in-Err-clause-cut : goal.returns-in-Err-clause-cut
returns-in-Err-clause-cut g c =
    driver_cut (sink_data g.O.Sink c.args.out.now) (sink_data g.O.Sink c.put_verdict.new.out) c.put_verdict.result
    c.in-Ok.verdict (design_tree c.args.inputs.now.design) (trees_of c.args.inputs.now.blocks)
    c.args.inputs.now.cert (record { is = c.in-Ok.ensures.verdict; only = c.in-Ok.ensures.only })
    c.deref.result.now (c.deref.ensures.value ∙ c.in-Ok-ranks_of.ensures) c.put_verdict.ensures
    c.in-Err.failure c.in-Err.is

use Rattle.tm_syntax.specs.Design.View.{design_tree}
use Rattle.tm_cir.specs.View.{trees_of}
use Rattle.tm_commands.specs.World.{files_data}
use Rattle.tm_report.specs.Output.{sink_data}
use Rattle.tm_commands.proofs.Running.{stopped_running, played_obeys}
use Rattle.tm_commands.proofs.commands.run.run.Goals as goal

pub returns-in-Err-clause-obeys : goal.returns-in-Err-clause-obeys
returns-in-Err-clause-obeys g c =
    stopped_running c.args.spec.now c.args.driver.now c.args.choices.now (files_data g.F.Files c.args.files.now)
    (files_data g.F.Files c.load.new.files) (sink_data g.O.Sink c.args.out.now) c.in-Err.stop c.outcome.result
    c.outcome.ensures c.load.ensures.files c.in-Err.ensures.stopped

pub returns-clause-obeys : goal.returns-clause-obeys
returns-clause-obeys g c =
    played_obeys c.args.spec.now c.args.driver.now c.args.choices.now (files_data g.F.Files c.args.files.now)
    (files_data g.F.Files c.load.new.files) (sink_data g.O.Sink c.args.out.now)
    (sink_data g.O.Sink c.play_inputs-ended.new.out) (design_tree c.in-Ok.inputs.design)
    (trees_of c.in-Ok.inputs.blocks) c.in-Ok.inputs.script c.play_inputs-ended.result c.load.ensures.files
    c.in-Ok.ensures.told c.play_inputs-ended.ensures.ended c.play_inputs-ended.ensures.cut
    c.play_inputs-ended.ensures.failure
    c.play_inputs-ended.ensures.no_fewer_faults

pub returns-in-Err-clause-counts : goal.returns-in-Err-clause-counts
returns-in-Err-clause-counts g c = c.load.ensures.counts

pub returns-clause-counts : goal.returns-clause-counts
returns-clause-counts g c = c.load.ensures.counts

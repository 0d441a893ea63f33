use Rattle.tm_syntax.specs.Design.View.{design_tree}
use Rattle.tm_commands.specs.World.{files_data}
use Rattle.tm_report.specs.Output.{sink_data}
use Rattle.tm_commands.proofs.CheckingLevels.{checked_levels_obeys, stopped_checking_levels}
use Rattle.tm_commands.proofs.commands.check_environment.check_environment.Goals as goal

pub returns-in-Err-clause-obeys : goal.returns-in-Err-clause-obeys
returns-in-Err-clause-obeys g c =
    stopped_checking_levels c.args.spec.now c.args.cert.now (files_data g.F.Files c.args.files.now)
    (files_data g.F.Files c.load_environment.new.files) (sink_data g.O.Sink c.args.out.now) c.in-Err.stop
    c.outcome.result c.outcome.ensures c.load_environment.ensures.files c.in-Err.ensures.stopped

pub judge-ended-requires-clause-can : goal.judge-ended-requires-clause-can
judge-ended-requires-clause-can g c = c.in-Ok.ensures.read.can

pub judge-ended-requires-clause-fairs : goal.judge-ended-requires-clause-fairs
judge-ended-requires-clause-fairs g c = c.in-Ok.ensures.read.fairs_are

pub returns-clause-obeys : goal.returns-clause-obeys
returns-clause-obeys g c =
    checked_levels_obeys c.args.spec.now c.args.cert.now (files_data g.F.Files c.args.files.now)
    (files_data g.F.Files c.load_environment.new.files) (sink_data g.O.Sink c.args.out.now)
    (sink_data g.O.Sink c.judge-ended.new.out) (design_tree c.in-Ok.inputs.design) c.in-Ok.inputs.cert
    c.in-Ok.inputs.fairs
    c.load_environment.ensures.files c.in-Ok.ensures.read c.judge-ended.ensures.no_fewer_faults c.judge-ended.result
    c.judge-ended.ensures.judged c.judge-ended.ensures.cut c.judge-ended.ensures.failure

pub returns-in-Err-clause-counts : goal.returns-in-Err-clause-counts
returns-in-Err-clause-counts g c = c.load_environment.ensures.counts

pub returns-clause-counts : goal.returns-clause-counts
returns-clause-counts g c = c.load_environment.ensures.counts

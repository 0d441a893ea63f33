use Rattle.std.proofs.Common.{Some, ap, ◌∙◌}
use Rattle.tm_report.specs.Output.{sink_data}
use Rattle.tm_report.specs.Report.{environment_found_text}
use Rattle.tm_report.specs.declared.ending.Ending.TheVariants.{Environment}
use Rattle.tm_syntax.specs.Design.View.{design_tree}
use Rattle.tm_commands.specs.Inner.Synthesising.{finds_none}
use Rattle.tm_commands.specs.Synthesise.{driver_name}
use Rattle.tm_commands.specs.World.{files_data}
use Rattle.tm_commands.proofs.Synthesising.{cut_synthesises, loss_unwritten_synthesises, names_differ, put_synthesises}
use Rattle.tm_commands.proofs.Synthesising.{touches_cert}
use Rattle.tm_commands.proofs.commands.synthesise.end_with_environment.Goals as goal

pub returns-in-Err : goal.returns-in-Err
returns-in-Err g c =
    λ budget within. loss_unwritten_synthesises (design_tree c.args.design.now) budget c.args.name.now
    (files_data g.F.Files c.args.files.now) (files_data g.F.Files c.write_with.new.files)
    (sink_data g.O.Sink c.args.out.now) c.in-Err.unwritten c.requires.lost
    c.write_with.ensures.files c.in-Err.ensures.failure

pub returns-in-Ok-put_environment : goal.returns-in-Ok-put_environment
returns-in-Ok-put_environment g c =
    λ budget within. put_synthesises (design_tree c.args.design.now) budget c.args.name.now
    (files_data g.F.Files c.args.files.now) (files_data g.F.Files c.write_with.new.files)
    (environment_found_text (design_tree c.args.design.now) c.args.made.levels c.args.made.conditions
    c.args.made.chain c.args.made.trace)
    (Environment c.args.made.levels c.args.made.conditions c.args.made.chain c.args.made.trace)
    (finds_none c.args.made.levels c.args.made.conditions c.args.made.chain c.args.made.trace within c.requires
    (λ tells. c.in-Ok.ensures.written tells ∙ ap Some c.deref.ensures.value)
    (c.write_with.ensures.files.same_others (driver_name c.args.name.now) (names_differ c.args.name.now)))
    (touches_cert c.args.name.now (files_data g.F.Files c.args.files.now) (files_data g.F.Files c.write_with.new.files)
    c.write_with.ensures.files)
    (sink_data g.O.Sink c.args.out.now) (sink_data g.O.Sink c.put_environment.new.out) c.put_environment.result _
    c.in-Ok-put_environment.is c.put_environment.ensures

pub returns-in-Err-put_environment : goal.returns-in-Err-put_environment
returns-in-Err-put_environment g c =
    λ budget within. cut_synthesises (design_tree c.args.design.now) budget c.args.name.now
    (files_data g.F.Files c.args.files.now) (files_data g.F.Files c.write_with.new.files)
    (environment_found_text (design_tree c.args.design.now) c.args.made.levels c.args.made.conditions
    c.args.made.chain c.args.made.trace)
    (Environment c.args.made.levels c.args.made.conditions c.args.made.chain c.args.made.trace)
    (finds_none c.args.made.levels c.args.made.conditions c.args.made.chain c.args.made.trace within c.requires
    (λ tells. c.in-Ok.ensures.written tells ∙ ap Some c.deref.ensures.value)
    (c.write_with.ensures.files.same_others (driver_name c.args.name.now) (names_differ c.args.name.now)))
    (touches_cert c.args.name.now (files_data g.F.Files c.args.files.now) (files_data g.F.Files c.write_with.new.files)
    c.write_with.ensures.files)
    (sink_data g.O.Sink c.args.out.now) (sink_data g.O.Sink c.put_environment.new.out) c.put_environment.result
    c.in-Err-put_environment.failure c.in-Err-put_environment.is c.put_environment.ensures

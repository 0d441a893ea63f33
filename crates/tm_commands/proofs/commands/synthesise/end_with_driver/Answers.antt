use Rattle.std.proofs.Common.{ℕ, List, subst}
use Rattle.tm_report.specs.Output.{sink_data}
use Rattle.tm_report.specs.Putting.{HasPut}
use Rattle.tm_report.specs.Report.{driver_found_text}
use Rattle.tm_report.specs.declared.ending.Ending.TheVariants.{Driver}
use Rattle.tm_syntax.specs.Design.View.{design_tree}
use Rattle.tm_commands.specs.Inner.Synthesising.{finds_driver}
use Rattle.tm_commands.specs.World.{files_data}
use Rattle.tm_commands.proofs.Synthesising.{cut_synthesises, few_found_ranks, put_synthesises, unwritten_synthesises}
use Rattle.tm_commands.proofs.commands.synthesise.end_with_driver.Goals as goal

pub returns-in-Err : goal.returns-in-Err
returns-in-Err g c =
    λ budget within. unwritten_synthesises (design_tree c.args.design.now) budget c.args.name.now
    (files_data g.F.Files c.args.files.now) (files_data g.F.Files c.write_driver.new.files)
    (sink_data g.O.Sink c.args.out.now) c.args.made.ranks.items c.args.made.trace c.args.made.nodes c.in-Err.unwritten
    c.requires.found c.write_driver.ensures.files c.in-Err.ensures.failure

pub put_driver-requires : goal.put_driver-requires
put_driver-requires g c =
    few_found_ranks (design_tree c.args.design.now) c.requires.sound c.args.made.driver.items c.args.made.cert.items
    c.args.made.ranks.items c.args.made.trace c.args.made.nodes c.requires.found c.deref.result.now
    c.deref.ensures.value

pub returns-in-Ok-put_driver : goal.returns-in-Ok-put_driver
returns-in-Ok-put_driver g c =
    λ budget within. put_synthesises (design_tree c.args.design.now) budget c.args.name.now
    (files_data g.F.Files c.args.files.now) (files_data g.F.Files c.write_driver.new.files)
    (driver_found_text (design_tree c.args.design.now) c.args.made.ranks.items c.args.made.trace c.args.made.nodes)
    (Driver c.args.made.ranks.items c.args.made.trace c.args.made.nodes)
    (finds_driver c.args.made.ranks.items c.args.made.trace c.args.made.nodes within c.requires.found
    c.in-Ok.ensures.driver c.in-Ok.ensures.cert)
    c.write_driver.ensures.files (sink_data g.O.Sink c.args.out.now) (sink_data g.O.Sink c.put_driver.new.out)
    c.put_driver.result _ c.in-Ok-put_driver.is
    (subst
    (λ (ranks : List ℕ). HasPut
    (driver_found_text (design_tree c.args.design.now) ranks c.args.made.trace c.args.made.nodes)
    (sink_data g.O.Sink c.args.out.now) (sink_data g.O.Sink c.put_driver.new.out) c.put_driver.result)
    c.deref.ensures.value c.put_driver.ensures)

pub returns-in-Err-put_driver : goal.returns-in-Err-put_driver
returns-in-Err-put_driver g c =
    λ budget within. cut_synthesises (design_tree c.args.design.now) budget c.args.name.now
    (files_data g.F.Files c.args.files.now) (files_data g.F.Files c.write_driver.new.files)
    (driver_found_text (design_tree c.args.design.now) c.args.made.ranks.items c.args.made.trace c.args.made.nodes)
    (Driver c.args.made.ranks.items c.args.made.trace c.args.made.nodes)
    (finds_driver c.args.made.ranks.items c.args.made.trace c.args.made.nodes within c.requires.found
    c.in-Ok.ensures.driver c.in-Ok.ensures.cert)
    c.write_driver.ensures.files (sink_data g.O.Sink c.args.out.now) (sink_data g.O.Sink c.put_driver.new.out)
    c.put_driver.result c.in-Err-put_driver.failure c.in-Err-put_driver.is
    (subst
    (λ (ranks : List ℕ). HasPut
    (driver_found_text (design_tree c.args.design.now) ranks c.args.made.trace c.args.made.nodes)
    (sink_data g.O.Sink c.args.out.now) (sink_data g.O.Sink c.put_driver.new.out) c.put_driver.result)
    c.deref.ensures.value c.put_driver.ensures)

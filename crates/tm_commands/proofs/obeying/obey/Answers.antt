use Rattle.std.proofs.Common.{Some, sym, subst}
use Rattle.tm_commands.specs.Order.{IsDue}
use Rattle.tm_commands.specs.Words.{command_view}
use Rattle.tm_commands.specs.World.{OnlyCounts, files_data}
use Rattle.tm_commands.specs.declared.words.command.Command.{Command}
use Rattle.tm_commands.proofs.obeying.obey.Goals as goal

pub returns-in-Run-clause-counts : goal.returns-in-Run-clause-counts
returns-in-Run-clause-counts g c =
    subst (λ (k : Command). OnlyCounts (IsDue (g.F.Files.contents c.args.files.now) (Some (command_view k)))
    (files_data g.F.Files c.args.files.now) (files_data g.F.Files c.run.new.files)) (sym c.in-Run.is)
    c.run.ensures.counts

pub returns-in-CheckDriver-clause-counts : goal.returns-in-CheckDriver-clause-counts
returns-in-CheckDriver-clause-counts g c =
    subst (λ (k : Command). OnlyCounts (IsDue (g.F.Files.contents c.args.files.now) (Some (command_view k)))
    (files_data g.F.Files c.args.files.now) (files_data g.F.Files c.check_driver.new.files)) (sym c.in-CheckDriver.is)
    c.check_driver.ensures.counts

pub returns-in-CheckEnvironment-clause-counts : goal.returns-in-CheckEnvironment-clause-counts
returns-in-CheckEnvironment-clause-counts g c =
    subst (λ (k : Command). OnlyCounts (IsDue (g.F.Files.contents c.args.files.now) (Some (command_view k)))
    (files_data g.F.Files c.args.files.now) (files_data g.F.Files c.check_environment.new.files)) (sym
    c.in-CheckEnvironment.is) c.check_environment.ensures.counts

pub returns-in-Migrate-clause-counts : goal.returns-in-Migrate-clause-counts
returns-in-Migrate-clause-counts g c =
    subst (λ (k : Command). OnlyCounts (IsDue (g.F.Files.contents c.args.files.now) (Some (command_view k)))
    (files_data g.F.Files c.args.files.now) (files_data g.F.Files c.migrate.new.files)) (sym c.in-Migrate.is)
    c.migrate.ensures.counts

pub returns-in-Structure-clause-counts : goal.returns-in-Structure-clause-counts
returns-in-Structure-clause-counts g c =
    subst (λ (k : Command). OnlyCounts (IsDue (g.F.Files.contents c.args.files.now) (Some (command_view k)))
    (files_data g.F.Files c.args.files.now) (files_data g.F.Files c.structure.new.files)) (sym c.in-Structure.is)
    c.structure.ensures.counts

pub returns-in-Unstructure-clause-counts : goal.returns-in-Unstructure-clause-counts
returns-in-Unstructure-clause-counts g c =
    subst (λ (k : Command). OnlyCounts (IsDue (g.F.Files.contents c.args.files.now) (Some (command_view k)))
    (files_data g.F.Files c.args.files.now) (files_data g.F.Files c.unstructure.new.files)) (sym c.in-Unstructure.is)
    c.unstructure.ensures.counts

use Rattle.std.proofs.Common.{Some, ap, ◌∙◌}
use Rattle.tm_commands.specs.Order.{IsDueOfTwo}
use Rattle.tm_commands.specs.Words.{migrate}
use Rattle.tm_commands.specs.World.{files_data}
use Rattle.tm_report.specs.Output.{sink_data}
use Rattle.tm_commands.proofs.Loading.{counts_still}
use Rattle.tm_commands.proofs.Migrating.{stopped_migrating, wanting_migrating}
use Rattle.tm_commands.proofs.Spelling.{spelled_fit}
use Rattle.tm_commands.proofs.Writing.{migrated_obeys, unmigrated_obeys}
use Rattle.tm_commands.proofs.commands.migrate.migrate.Goals as goal

pub returns-in-Err-clause-obeys : goal.returns-in-Err-clause-obeys
returns-in-Err-clause-obeys g c =
    stopped_migrating c.args.spec.now c.args.cert.now c.args.name.now (files_data g.F.Files c.args.files.now)
    (files_data g.F.Files c.load_migration.new.files) (sink_data g.O.Sink c.args.out.now) c.in-Err.stop c.outcome.result
    c.outcome.ensures c.load_migration.ensures.files c.in-Err.ensures.stopped

pub returns-in_default-clause-obeys : goal.returns-in_default-clause-obeys
returns-in_default-clause-obeys g c =
    wanting_migrating c.args.spec.now c.args.cert.now c.args.name.now (files_data g.F.Files c.args.files.now)
    (files_data g.F.Files c.load_migration.new.files) (sink_data g.O.Sink c.args.out.now) c.load_migration.ensures.files

pub returns-in-Ok-write_file-clause-obeys : goal.returns-in-Ok-write_file-clause-obeys
returns-in-Ok-write_file-clause-obeys g c =
    migrated_obeys c.args.spec.now c.args.cert.now c.args.name.now g.F.Files c.args.files.now
    c.load_migration.new.files c.write_file.new.files (sink_data g.O.Sink c.args.out.now) c.load_migration.ensures.files
    c.write_file.ensures.files c.in-Ok.migration.shape c.in-Ok.migration.cert c.in-Ok-write_shaped.text.items
    c.in-Ok.ensures.loaded c.in-Ok-write_shaped.ensures.text c.in-Ok-write_shaped.ensures.reads_back
    (λ tells. c.in-Ok-write_file.ensures.written tells ∙ ap Some c.deref.ensures.value)

pub returns-clause-obeys : goal.returns-clause-obeys
returns-clause-obeys g c =
    unmigrated_obeys c.args.spec.now c.args.cert.now c.args.name.now g.F.Files c.args.files.now
    c.load_migration.new.files c.write_file.new.files (sink_data g.O.Sink c.args.out.now) c.load_migration.ensures.files
    c.write_file.ensures.files c.in-Ok.migration.shape c.in-Ok.migration.cert c.in-Err-write_file.unwritten
    c.in-Ok.ensures.loaded (spelled_fit (migrate c.args.spec.now c.args.cert.now c.args.name.now) c.requires)
    c.in-Err-write_file.ensures.failure

pub returns-in-Err-clause-counts : goal.returns-in-Err-clause-counts
returns-in-Err-clause-counts g c = c.load_migration.ensures.counts

pub returns-in_default-clause-counts : goal.returns-in_default-clause-counts
returns-in_default-clause-counts g c = c.load_migration.ensures.counts

pub returns-in-Ok-write_file-clause-counts : goal.returns-in-Ok-write_file-clause-counts
returns-in-Ok-write_file-clause-counts g c =
    counts_still g.F.Files c.args.files.now c.load_migration.new.files c.write_file.new.files
    (IsDueOfTwo (g.F.Files.contents c.args.files.now) c.args.spec.now c.args.cert.now) c.load_migration.ensures.counts
    c.write_file.ensures.files.same_reads

pub returns-clause-counts : goal.returns-clause-counts
returns-clause-counts g c =
    counts_still g.F.Files c.args.files.now c.load_migration.new.files c.write_file.new.files
    (IsDueOfTwo (g.F.Files.contents c.args.files.now) c.args.spec.now c.args.cert.now) c.load_migration.ensures.counts
    c.write_file.ensures.files.same_reads

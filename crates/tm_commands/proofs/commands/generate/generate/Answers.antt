use Rattle.std.proofs.Common.{Err, Some, refl, ap, ◌∙◌, rules, arith}
use Rattle.tm_report.specs.declared.ending.Failure.TheVariants.{Memory}
use Rattle.tm_commands.specs.Words.{generate}
use Rattle.tm_commands.specs.World.{files_data}
use Rattle.tm_report.specs.Output.{sink_data}
use Rattle.tm_commands.proofs.Loading.{counts_none, counts_still}
use Rattle.tm_commands.proofs.Running.{unread_words_obey}
use Rattle.tm_commands.proofs.Spelling.{spelled_fit}
use Rattle.tm_commands.proofs.Writing.{generated_obeys, ungenerated_obeys}
use Rattle.tm_commands.proofs.commands.generate.generate.Goals as goal

pub unreachable-requires : goal.unreachable-requires
unreachable-requires g c =
    let fit = spelled_fit (generate c.args.registers c.args.name.now) c.requires in
    let large = c.generate.ensures.too_large.0 (search rules) in
    omega (arith, fit.0, large)

pub returns-in-Err-Memory-clause-obeys : goal.returns-in-Err-Memory-clause-obeys
returns-in-Err-Memory-clause-obeys g c =
    unread_words_obey (Some (generate c.args.registers c.args.name.now)) (files_data g.F.Files c.args.files.now)
    (sink_data g.O.Sink c.args.out.now) (Err Memory) refl

pub returns-in-Ok-write_file-clause-obeys : goal.returns-in-Ok-write_file-clause-obeys
returns-in-Ok-write_file-clause-obeys g c =
    generated_obeys c.args.registers c.args.name.now g.F.Files c.args.files.now c.write_file.new.files
    (sink_data g.O.Sink c.args.out.now) c.write_file.ensures.files
    (λ tells. c.in-Ok-write_file.ensures.written tells
    ∙ ap Some (c.deref.ensures.value ∙ c.in-Ok.ensures.text))

pub returns-clause-obeys : goal.returns-clause-obeys
returns-clause-obeys g c =
    ungenerated_obeys c.args.registers c.args.name.now g.F.Files c.args.files.now c.write_file.new.files
    (sink_data g.O.Sink c.args.out.now) c.write_file.ensures.files c.in-Err.unwritten
    (spelled_fit (generate c.args.registers c.args.name.now) c.requires).1 c.in-Err.ensures.failure

pub returns-in-Err-Memory-clause-counts : goal.returns-in-Err-Memory-clause-counts
returns-in-Err-Memory-clause-counts g c = counts_none (λ name. ⊥) (files_data g.F.Files c.args.files.now)

pub returns-in-Ok-write_file-clause-counts : goal.returns-in-Ok-write_file-clause-counts
returns-in-Ok-write_file-clause-counts g c =
    counts_still g.F.Files c.args.files.now c.args.files.now c.write_file.new.files
    (λ name. ⊥) (counts_none (λ name. ⊥) (files_data g.F.Files c.args.files.now)) c.write_file.ensures.files.same_reads

pub returns-clause-counts : goal.returns-clause-counts
returns-clause-counts g c =
    counts_still g.F.Files c.args.files.now c.args.files.now c.write_file.new.files
    (λ name. ⊥) (counts_none (λ name. ⊥) (files_data g.F.Files c.args.files.now)) c.write_file.ensures.files.same_reads

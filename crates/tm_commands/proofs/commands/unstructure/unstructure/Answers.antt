use Rattle.std.proofs.Common.{Some, ap, ◌∙◌}
use Rattle.tm_syntax.specs.Design.View.{design_tree}
use Rattle.tm_struct.specs.View.{program_tree}
use Rattle.tm_commands.specs.Order.{IsDueOfTwo}
use Rattle.tm_commands.specs.Words.{unstructure}
use Rattle.tm_commands.specs.World.{files_data}
use Rattle.tm_report.specs.Output.{sink_data}
use Rattle.tm_commands.proofs.Loading.{counts_still}
use Rattle.tm_commands.proofs.Spelling.{spelled_fit}
use Rattle.tm_commands.proofs.Unstructuring.{stopped_unstructuring, wanting_unstructuring, blocked_obeys}
use Rattle.tm_commands.proofs.Unstructuring.{unblocked_obeys}
use Rattle.tm_commands.proofs.commands.unstructure.unstructure.Goals as goal

pub blocks_text-requires : goal.blocks_text-requires
blocks_text-requires g c = c.in-Ok.ensures.loaded.fits

pub returns-in-Err-clause-obeys : goal.returns-in-Err-clause-obeys
returns-in-Err-clause-obeys g c =
    stopped_unstructuring c.args.spec.now c.args.structured.now c.args.name.now (files_data g.F.Files c.args.files.now)
    (files_data g.F.Files c.load_unstructure.new.files) (sink_data g.O.Sink c.args.out.now) c.in-Err.stop
    c.outcome.result
    c.outcome.ensures c.load_unstructure.ensures.files c.in-Err.ensures.stopped

pub returns-in_default-clause-obeys : goal.returns-in_default-clause-obeys
returns-in_default-clause-obeys g c =
    wanting_unstructuring c.args.spec.now c.args.structured.now c.args.name.now (files_data g.F.Files c.args.files.now)
    (files_data g.F.Files c.load_unstructure.new.files) (sink_data g.O.Sink c.args.out.now)
    c.load_unstructure.ensures.files

pub returns-in-Ok-write_file-clause-obeys : goal.returns-in-Ok-write_file-clause-obeys
returns-in-Ok-write_file-clause-obeys g c =
    blocked_obeys c.args.spec.now c.args.structured.now c.args.name.now g.F.Files c.args.files.now
    c.load_unstructure.new.files c.write_file.new.files (sink_data g.O.Sink c.args.out.now)
    c.load_unstructure.ensures.files
    c.write_file.ensures.files (design_tree c.in-Ok.inputs.design) (program_tree c.in-Ok.inputs.program)
    c.in-Ok.ensures.loaded c.in-Ok-blocks_text.made.text.items c.in-Ok-blocks_text.made.blocks
    c.in-Ok-blocks_text.ensures (λ tells. c.in-Ok-write_file.ensures.written tells ∙ ap Some c.deref.ensures.value)

pub returns-clause-obeys : goal.returns-clause-obeys
returns-clause-obeys g c =
    unblocked_obeys c.args.spec.now c.args.structured.now c.args.name.now g.F.Files c.args.files.now
    c.load_unstructure.new.files c.write_file.new.files (sink_data g.O.Sink c.args.out.now)
    c.load_unstructure.ensures.files
    c.write_file.ensures.files (design_tree c.in-Ok.inputs.design) (program_tree c.in-Ok.inputs.program)
    c.in-Ok.ensures.loaded c.in-Err-write_file.unwritten
    (spelled_fit (unstructure c.args.spec.now c.args.structured.now c.args.name.now) c.requires)
    c.in-Err-write_file.ensures.failure

pub returns-in-Err-clause-counts : goal.returns-in-Err-clause-counts
returns-in-Err-clause-counts g c = c.load_unstructure.ensures.counts

pub returns-in_default-clause-counts : goal.returns-in_default-clause-counts
returns-in_default-clause-counts g c = c.load_unstructure.ensures.counts

pub returns-in-Ok-write_file-clause-counts : goal.returns-in-Ok-write_file-clause-counts
returns-in-Ok-write_file-clause-counts g c =
    counts_still g.F.Files c.args.files.now c.load_unstructure.new.files c.write_file.new.files
    (IsDueOfTwo (g.F.Files.contents c.args.files.now) c.args.spec.now c.args.structured.now)
    c.load_unstructure.ensures.counts
    c.write_file.ensures.files.same_reads

pub returns-clause-counts : goal.returns-clause-counts
returns-clause-counts g c =
    counts_still g.F.Files c.args.files.now c.load_unstructure.new.files c.write_file.new.files
    (IsDueOfTwo (g.F.Files.contents c.args.files.now) c.args.spec.now c.args.structured.now)
    c.load_unstructure.ensures.counts
    c.write_file.ensures.files.same_reads

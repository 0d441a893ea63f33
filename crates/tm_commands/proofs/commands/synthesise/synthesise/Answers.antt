use Rattle.std.proofs.Common.{◌≡◌, [], ◌∷◌, refl, arith}
use Rattle.tm_report.specs.Output.{sink_data}
use Rattle.tm_syntax.specs.Design.View.{design_tree}
use Rattle.tm_commands.specs.World.{files_data}
use Rattle.tm_commands.proofs.Loading.{counts_still, reads_none, stops_later}
use Rattle.tm_commands.proofs.Specifying.{text_of}
use Rattle.tm_commands.proofs.Synthesising.{stopped_synthesising, synthesised_obeys, wanting_synthesising}
use Rattle.tm_commands.proofs.commands.synthesise.synthesise.Goals as goal

pub returns-in-Err-clause-obeys : goal.returns-in-Err-clause-obeys
returns-in-Err-clause-obeys g c =
    stopped_synthesising c.args.spec.now c.args.name.now c.args.budget (files_data g.F.Files c.args.files.now)
    (files_data g.F.Files c.load_specification.new.files) (sink_data g.O.Sink c.args.out.now) c.in-Err.stop
    c.outcome.result c.outcome.ensures c.load_specification.ensures.files
    (stops_later g.F.Files c.args.files.now c.args.files.now c.load_specification.new.files
    (c.args.spec.now ∷ []) (λ name. name ≡ c.args.spec.now) c.args.spec.now c.in-Err.stop (0, omega arith, refl)
    (λ told. refl) (reads_none (files_data g.F.Files c.args.files.now)) (λ e told none. none) (λ e refused. refused)
    c.in-Err.ensures.stopped)

pub synthesise-requires : goal.synthesise-requires
synthesise-requires g c = record { sound = c.in-Ok.ensures.read.is.sound; of_text = text_of c.in-Ok.ensures.read }

pub end_with-requires : goal.end_with-requires
end_with-requires g c = record {
  sound = c.in-Ok.ensures.read.is.sound;
  found = c.in-Ok-synthesise.ensures.found;
  within = c.in-Ok-synthesise.ensures.within;
}

pub returns-in-Ok-synthesise-clause-obeys : goal.returns-in-Ok-synthesise-clause-obeys
returns-in-Ok-synthesise-clause-obeys g c =
    synthesised_obeys c.args.spec.now c.args.name.now c.args.budget g.F.Files c.args.files.now
    c.load_specification.new.files c.end_with.new.files g.O.Sink c.args.out.now c.end_with.new.out
    (design_tree c.in-Ok.design) c.load_specification.ensures.files c.in-Ok.ensures.read c.end_with.result
    c.end_with.ensures

pub returns-clause-obeys : goal.returns-clause-obeys
returns-clause-obeys g c =
    wanting_synthesising c.args.spec.now c.args.name.now c.args.budget (files_data g.F.Files c.args.files.now)
    (files_data g.F.Files c.load_specification.new.files) (sink_data g.O.Sink c.args.out.now)
    c.load_specification.ensures.files

pub returns-in-Err-clause-counts : goal.returns-in-Err-clause-counts
returns-in-Err-clause-counts g c = c.load_specification.ensures.counts

pub returns-in-Ok-synthesise-clause-counts : goal.returns-in-Ok-synthesise-clause-counts
returns-in-Ok-synthesise-clause-counts g c =
    counts_still g.F.Files c.args.files.now c.load_specification.new.files c.end_with.new.files
    (λ name. name ≡ c.args.spec.now) c.load_specification.ensures.counts (c.end_with.ensures.touched.nothing_read
    refl).0

pub returns-clause-counts : goal.returns-clause-counts
returns-clause-counts g c = c.load_specification.ensures.counts

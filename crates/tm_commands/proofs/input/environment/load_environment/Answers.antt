use Rattle.std.proofs.Common.{ℕ, List, Option, [], ◌∷◌, refl, subst, arith}
use Rattle.tm_cert.specs.declared.cert.Cert.TheVariants as certs
use Rattle.tm_cert.specs.declared.shape.Kind.TheVariants.{Environment}
use Rattle.tm_syntax.specs.Design.View.{design_tree}
use Rattle.tm_commands.specs.Check.{no_spec, no_levels, may_refuse_spec, may_refuse_levels}
use Rattle.tm_commands.specs.Inputs.{TellsCert, NoCert}
use Rattle.tm_commands.specs.Order.{IsDueOfTwo, first_is_due, second_is_due}
use Rattle.tm_commands.specs.World.{files_data}
use Rattle.tm_commands.proofs.Loading.{counts_later, counts_none, reads_none, reads_on, stops_later}
use Rattle.tm_commands.proofs.Specifying.{specified, text_of}
use Rattle.tm_commands.proofs.input.environment.load_environment.Goals as goal

pub returns-in-Err-clause-stopped : goal.returns-in-Err-clause-stopped
returns-in-Err-clause-stopped g c =
    stops_later g.F.Files c.args.files.now c.args.files.now c.load_specification.new.files
    (c.args.spec.now ∷ c.args.cert.now ∷ [])
    (IsDueOfTwo (g.F.Files.contents c.args.files.now) c.args.spec.now c.args.cert.now) c.args.spec.now
    c.in-Err.no_specification (0, omega arith, refl) (λ told. first_is_due)
    (reads_none (files_data g.F.Files c.args.files.now)) (λ e told none. no_spec none)
    (λ e refused. may_refuse_spec refused) c.in-Err.ensures.stopped

pub load_levels-requires-clause-sound : goal.load_levels-requires-clause-sound
load_levels-requires-clause-sound g c = c.in-Ok.ensures.read.is.sound

pub load_levels-requires-clause-of_text : goal.load_levels-requires-clause-of_text
load_levels-requires-clause-of_text g c = text_of c.in-Ok.ensures.read

pub returns-in-Ok-load_levels-clause-read : goal.returns-in-Ok-load_levels-clause-read
returns-in-Ok-load_levels-clause-read g c = record {
  can = record {
    sound = c.in-Ok.ensures.read.is.sound;
    of_text = text_of c.in-Ok.ensures.read;
    cert = c.in-Ok-load_levels.ensures.fits;
  };
  told = λ told. record {
    design = specified c.in-Ok.ensures.read told;
    certificate = subst (λ (f : List ℕ → Option (List ℕ)).
        TellsCert f c.args.cert.now (design_tree c.in-Ok.design) Environment
        (certs.Environment c.in-Ok-load_levels.levels.cert))
        c.load_specification.ensures.files.same_contents (c.in-Ok-load_levels.ensures.told told);
  };
  fairs_are = c.in-Ok-load_levels.ensures.fairs;
}

pub returns-in-Err-load_levels-clause-stopped : goal.returns-in-Err-load_levels-clause-stopped
returns-in-Err-load_levels-clause-stopped g c =
    stops_later g.F.Files c.args.files.now c.load_specification.new.files c.load_levels.new.files
    (c.args.spec.now ∷ c.args.cert.now ∷ [])
    (IsDueOfTwo (g.F.Files.contents c.args.files.now) c.args.spec.now c.args.cert.now) c.args.cert.now
    c.in-Err-load_levels.uncertified (1, omega arith, refl)
    (λ told. second_is_due (specified c.in-Ok.ensures.read told)) c.load_specification.ensures.files
    (λ e told none. no_levels (specified c.in-Ok.ensures.read told)
    (subst (λ (f : List ℕ → Option (List ℕ)). NoCert f c.args.cert.now (design_tree c.in-Ok.design) Environment e)
    c.load_specification.ensures.files.same_contents none))
    (λ e refused. may_refuse_levels refused) c.in-Err-load_levels.ensures.stopped

pub returns-in-Err-load_levels-clause-files : goal.returns-in-Err-load_levels-clause-files
returns-in-Err-load_levels-clause-files g c = reads_on c.load_specification.ensures.files c.load_levels.ensures.files

pub returns-in-Ok-load_levels-clause-files : goal.returns-in-Ok-load_levels-clause-files
returns-in-Ok-load_levels-clause-files g c = reads_on c.load_specification.ensures.files c.load_levels.ensures.files

pub returns-in-Err-clause-counts : goal.returns-in-Err-clause-counts
returns-in-Err-clause-counts g c =
    counts_later g.F.Files c.args.files.now c.args.files.now c.load_specification.new.files
    (IsDueOfTwo (g.F.Files.contents c.args.files.now) c.args.spec.now c.args.cert.now) c.args.spec.now
    (counts_none (IsDueOfTwo (g.F.Files.contents c.args.files.now) c.args.spec.now c.args.cert.now) (files_data
    g.F.Files c.args.files.now)) (λ told. first_is_due) c.load_specification.ensures.counts

pub returns-in-Ok-load_levels-clause-counts : goal.returns-in-Ok-load_levels-clause-counts
returns-in-Ok-load_levels-clause-counts g c =
    counts_later g.F.Files c.args.files.now c.load_specification.new.files c.load_levels.new.files
    (IsDueOfTwo (g.F.Files.contents c.args.files.now) c.args.spec.now c.args.cert.now) c.args.cert.now
    (counts_later g.F.Files c.args.files.now c.args.files.now c.load_specification.new.files
    (IsDueOfTwo (g.F.Files.contents c.args.files.now) c.args.spec.now c.args.cert.now) c.args.spec.now
    (counts_none (IsDueOfTwo (g.F.Files.contents c.args.files.now) c.args.spec.now c.args.cert.now) (files_data
    g.F.Files c.args.files.now)) (λ told. first_is_due) c.load_specification.ensures.counts)
    (λ told. second_is_due (specified c.in-Ok.ensures.read told)) c.load_levels.ensures.counts

pub returns-in-Err-load_levels-clause-counts : goal.returns-in-Err-load_levels-clause-counts
returns-in-Err-load_levels-clause-counts g c =
    counts_later g.F.Files c.args.files.now c.load_specification.new.files c.load_levels.new.files
    (IsDueOfTwo (g.F.Files.contents c.args.files.now) c.args.spec.now c.args.cert.now) c.args.cert.now
    (counts_later g.F.Files c.args.files.now c.args.files.now c.load_specification.new.files
    (IsDueOfTwo (g.F.Files.contents c.args.files.now) c.args.spec.now c.args.cert.now) c.args.spec.now
    (counts_none (IsDueOfTwo (g.F.Files.contents c.args.files.now) c.args.spec.now c.args.cert.now) (files_data
    g.F.Files c.args.files.now)) (λ told. first_is_due) c.load_specification.ensures.counts)
    (λ told. second_is_due (specified c.in-Ok.ensures.read told)) c.load_levels.ensures.counts

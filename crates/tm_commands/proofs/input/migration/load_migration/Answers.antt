use Rattle.std.proofs.Common.{ℕ, List, Option, [], ◌∷◌, refl, subst, arith}
use Rattle.tm_cert.specs.declared.shape.Kind.TheVariants.{Either}
use Rattle.tm_syntax.specs.Design.View.{design_tree}
use Rattle.tm_commands.specs.Inputs.{TellsCert, NoCert}
use Rattle.tm_commands.specs.Migrate.{no_spec, no_cert, refuses_spec, refuses_cert}
use Rattle.tm_commands.specs.Order.{IsDueOfTwo, first_is_due, second_is_due}
use Rattle.tm_commands.specs.World.{files_data}
use Rattle.tm_commands.proofs.Loading.{counts_later, counts_none, reads_none, reads_on, stops_later}
use Rattle.tm_commands.proofs.Specifying.{specified, text_of}
use Rattle.tm_commands.proofs.input.migration.load_migration.Goals as goal

pub returns-in-Err-clause-stopped : goal.returns-in-Err-clause-stopped
returns-in-Err-clause-stopped g c =
    stops_later g.F.Files c.args.files.now c.args.files.now c.load_specification.new.files
    (c.args.spec.now ∷ c.args.cert.now ∷ [])
    (IsDueOfTwo (g.F.Files.contents c.args.files.now) c.args.spec.now c.args.cert.now) c.args.spec.now
    c.in-Err.no_specification (0, omega arith, refl) (λ told. first_is_due)
    (reads_none (files_data g.F.Files c.args.files.now)) (λ e told none. no_spec none)
    (λ e refused. refuses_spec refused) c.in-Err.ensures.stopped

pub cert_shape-requires : goal.cert_shape-requires
cert_shape-requires g c = record { sound = c.in-Ok.ensures.read.is.sound; read = text_of c.in-Ok.ensures.read }

pub returns-in-Ok-load_cert-clause-loaded : goal.returns-in-Ok-load_cert-clause-loaded
returns-in-Ok-load_cert-clause-loaded g c = record {
  design = design_tree c.in-Ok.design;
  shaped = c.in_ok-shape.ensures;
  specified = λ tells. specified c.in-Ok.ensures.read tells;
  certified = λ tells. subst
      (λ (f : List ℕ → Option (List ℕ)).
      TellsCert f c.args.cert.now (design_tree c.in-Ok.design) Either c.in-Ok-load_cert.cert)
      c.load_specification.ensures.files.same_contents
      (c.in-Ok-load_cert.ensures.told (design_tree c.in-Ok.design) Either c.in_ok-shape.ensures tells);
}

pub returns-clause-stopped : goal.returns-clause-stopped
returns-clause-stopped g c =
    stops_later g.F.Files c.args.files.now c.load_specification.new.files c.load_cert.new.files
    (c.args.spec.now ∷ c.args.cert.now ∷ [])
    (IsDueOfTwo (g.F.Files.contents c.args.files.now) c.args.spec.now c.args.cert.now) c.args.cert.now
    c.in-Err-load_cert.no_cert (1, omega arith, refl)
    (λ told. second_is_due (specified c.in-Ok.ensures.read told)) c.load_specification.ensures.files
    (λ e told none. no_cert (specified c.in-Ok.ensures.read told)
    (subst (λ (f : List ℕ → Option (List ℕ)). NoCert f c.args.cert.now (design_tree c.in-Ok.design) Either e)
    c.load_specification.ensures.files.same_contents none))
    (λ e refused. refuses_cert refused)
    (c.in-Err-load_cert.ensures.stopped (design_tree c.in-Ok.design) Either c.in_ok-shape.ensures)

pub returns-clause-files : goal.returns-clause-files
returns-clause-files g c = reads_on c.load_specification.ensures.files c.load_cert.ensures.files

pub returns-in-Ok-load_cert-clause-files : goal.returns-in-Ok-load_cert-clause-files
returns-in-Ok-load_cert-clause-files g c = reads_on c.load_specification.ensures.files c.load_cert.ensures.files

pub returns-in-Err-clause-counts : goal.returns-in-Err-clause-counts
returns-in-Err-clause-counts g c =
    counts_later g.F.Files c.args.files.now c.args.files.now c.load_specification.new.files
    (IsDueOfTwo (g.F.Files.contents c.args.files.now) c.args.spec.now c.args.cert.now) c.args.spec.now
    (counts_none (IsDueOfTwo (g.F.Files.contents c.args.files.now) c.args.spec.now c.args.cert.now) (files_data
    g.F.Files c.args.files.now)) (λ told. first_is_due) c.load_specification.ensures.counts

pub returns-in_err-shape-clause-counts : goal.returns-in_err-shape-clause-counts
returns-in_err-shape-clause-counts g c =
    counts_later g.F.Files c.args.files.now c.args.files.now c.load_specification.new.files
    (IsDueOfTwo (g.F.Files.contents c.args.files.now) c.args.spec.now c.args.cert.now) c.args.spec.now
    (counts_none (IsDueOfTwo (g.F.Files.contents c.args.files.now) c.args.spec.now c.args.cert.now) (files_data
    g.F.Files c.args.files.now)) (λ told. first_is_due) c.load_specification.ensures.counts

pub returns-in-Ok-load_cert-clause-counts : goal.returns-in-Ok-load_cert-clause-counts
returns-in-Ok-load_cert-clause-counts g c =
    counts_later g.F.Files c.args.files.now c.load_specification.new.files c.load_cert.new.files
    (IsDueOfTwo (g.F.Files.contents c.args.files.now) c.args.spec.now c.args.cert.now) c.args.cert.now
    (counts_later g.F.Files c.args.files.now c.args.files.now c.load_specification.new.files
    (IsDueOfTwo (g.F.Files.contents c.args.files.now) c.args.spec.now c.args.cert.now) c.args.spec.now
    (counts_none (IsDueOfTwo (g.F.Files.contents c.args.files.now) c.args.spec.now c.args.cert.now) (files_data
    g.F.Files c.args.files.now)) (λ told. first_is_due) c.load_specification.ensures.counts)
    (λ told. second_is_due (specified c.in-Ok.ensures.read told)) c.load_cert.ensures.counts

pub returns-clause-counts : goal.returns-clause-counts
returns-clause-counts g c =
    counts_later g.F.Files c.args.files.now c.load_specification.new.files c.load_cert.new.files
    (IsDueOfTwo (g.F.Files.contents c.args.files.now) c.args.spec.now c.args.cert.now) c.args.cert.now
    (counts_later g.F.Files c.args.files.now c.args.files.now c.load_specification.new.files
    (IsDueOfTwo (g.F.Files.contents c.args.files.now) c.args.spec.now c.args.cert.now) c.args.spec.now
    (counts_none (IsDueOfTwo (g.F.Files.contents c.args.files.now) c.args.spec.now c.args.cert.now) (files_data
    g.F.Files c.args.files.now)) (λ told. first_is_due) c.load_specification.ensures.counts)
    (λ told. second_is_due (specified c.in-Ok.ensures.read told)) c.load_cert.ensures.counts

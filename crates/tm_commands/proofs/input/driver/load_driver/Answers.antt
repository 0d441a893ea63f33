use Rattle.std.proofs.Common.{ℕ, List, Option, [], ◌∷◌, refl, subst, ◌∙◌, arith}
use Rattle.tm_cert.specs.declared.cert.Cert.TheVariants as certs
use Rattle.tm_cert.specs.declared.shape.Kind.TheVariants.{Driver}
use Rattle.tm_cir.specs.View.{trees_of}
use Rattle.tm_syntax.specs.Design.View.{design_tree}
use Rattle.tm_commands.specs.Check.{no_design, no_blocks, no_cert, may_refuse_design, may_refuse_blocks}
use Rattle.tm_commands.specs.Check.{may_refuse_cert}
use Rattle.tm_commands.specs.Inputs.{TellsBlocks, TellsCert, NoBlocks, NoCert}
use Rattle.tm_commands.specs.Order.{IsDueOfThree, spec_is_due, driver_is_due, third_is_due}
use Rattle.tm_commands.specs.World.{files_data}
use Rattle.tm_commands.proofs.Loading.{counts_later, counts_none, reads_none, reads_on, stops_later}
use Rattle.tm_commands.proofs.Specifying.{specified, text_of}
use Rattle.tm_commands.proofs.input.driver.load_driver.Goals as goal

pub returns-in-Err-clause-stopped : goal.returns-in-Err-clause-stopped
returns-in-Err-clause-stopped g c =
    stops_later g.F.Files c.args.files.now c.args.files.now c.load_specification.new.files
    (c.args.spec.now ∷ c.args.driver.now ∷ c.args.cert.now ∷ [])
    (IsDueOfThree (g.F.Files.contents c.args.files.now) c.args.spec.now c.args.driver.now c.args.cert.now)
    c.args.spec.now c.in-Err.no_specification (0, omega arith, refl) (λ told. spec_is_due)
    (reads_none (files_data g.F.Files c.args.files.now)) (λ e told none. no_design none)
    (λ e refused. may_refuse_design refused) c.in-Err.ensures.stopped

pub returns-in-Err-load_blocks-clause-stopped : goal.returns-in-Err-load_blocks-clause-stopped
returns-in-Err-load_blocks-clause-stopped g c =
    stops_later g.F.Files c.args.files.now c.load_specification.new.files c.load_blocks.new.files
    (c.args.spec.now ∷ c.args.driver.now ∷ c.args.cert.now ∷ [])
    (IsDueOfThree (g.F.Files.contents c.args.files.now) c.args.spec.now c.args.driver.now c.args.cert.now)
    c.args.driver.now c.in-Err-load_blocks.unread (1, omega arith, refl)
    (λ told. driver_is_due (specified c.in-Ok.ensures.read told)) c.load_specification.ensures.files
    (λ e told none. no_blocks (specified c.in-Ok.ensures.read told)
    (subst (λ (f : List ℕ → Option (List ℕ)). NoBlocks f c.args.driver.now (design_tree c.in-Ok.design) e)
    c.load_specification.ensures.files.same_contents none))
    (λ e refused. may_refuse_blocks refused) c.in-Err-load_blocks.ensures.stopped

pub returns-in-Err-load_driver_cert-clause-stopped : goal.returns-in-Err-load_driver_cert-clause-stopped
returns-in-Err-load_driver_cert-clause-stopped g c =
    stops_later g.F.Files c.args.files.now c.load_blocks.new.files c.load_driver_cert.new.files
    (c.args.spec.now ∷ c.args.driver.now ∷ c.args.cert.now ∷ [])
    (IsDueOfThree (g.F.Files.contents c.args.files.now) c.args.spec.now c.args.driver.now c.args.cert.now)
    c.args.cert.now c.in-Err-load_driver_cert.uncertified (2, omega arith, refl)
    (λ told. third_is_due (specified c.in-Ok.ensures.read told)
    (subst (λ (f : List ℕ → Option (List ℕ)).
    TellsBlocks f c.args.driver.now (design_tree c.in-Ok.design) (trees_of c.in-Ok-load_blocks.blocks))
    c.load_specification.ensures.files.same_contents (c.in-Ok-load_blocks.ensures.told told)))
    (reads_on c.load_specification.ensures.files c.load_blocks.ensures.files)
    (λ e told none. no_cert (specified c.in-Ok.ensures.read told)
    (subst (λ (f : List ℕ → Option (List ℕ)).
    TellsBlocks f c.args.driver.now (design_tree c.in-Ok.design) (trees_of c.in-Ok-load_blocks.blocks))
    c.load_specification.ensures.files.same_contents (c.in-Ok-load_blocks.ensures.told told))
    (subst (λ (f : List ℕ → Option (List ℕ)). NoCert f c.args.cert.now (design_tree c.in-Ok.design) Driver e)
    (c.load_blocks.ensures.files.same_contents ∙ c.load_specification.ensures.files.same_contents) none))
    (λ e refused. may_refuse_cert refused) c.in-Err-load_driver_cert.ensures.stopped

pub load_driver_cert-requires-clause-sound : goal.load_driver_cert-requires-clause-sound
load_driver_cert-requires-clause-sound g c = c.in-Ok.ensures.read.is.sound

pub load_driver_cert-requires-clause-of_text : goal.load_driver_cert-requires-clause-of_text
load_driver_cert-requires-clause-of_text g c = text_of c.in-Ok.ensures.read

pub returns-clause-read : goal.returns-clause-read
returns-clause-read g c = record {
  can = record {
    sound = c.in-Ok.ensures.read.is.sound;
    of_text = text_of c.in-Ok.ensures.read;
    blocks = c.in-Ok-load_blocks.ensures.fits;
    cert = c.in-Ok-load_driver_cert.ensures.fits;
  };
  told = λ told. record {
    design = specified c.in-Ok.ensures.read told;
    blocks = subst (λ (f : List ℕ → Option (List ℕ)).
        TellsBlocks f c.args.driver.now (design_tree c.in-Ok.design) (trees_of c.in-Ok-load_blocks.blocks))
        c.load_specification.ensures.files.same_contents (c.in-Ok-load_blocks.ensures.told told);
    certificate = subst (λ (f : List ℕ → Option (List ℕ)).
        TellsCert f c.args.cert.now (design_tree c.in-Ok.design) Driver (certs.Driver c.in-Ok-load_driver_cert.cert))
        (c.load_blocks.ensures.files.same_contents ∙ c.load_specification.ensures.files.same_contents)
        (c.in-Ok-load_driver_cert.ensures.told told);
  };
}

pub returns-in-Err-clause-counts : goal.returns-in-Err-clause-counts
returns-in-Err-clause-counts g c =
    counts_later g.F.Files c.args.files.now c.args.files.now c.load_specification.new.files
    (IsDueOfThree (g.F.Files.contents c.args.files.now) c.args.spec.now c.args.driver.now c.args.cert.now)
    c.args.spec.now
    (counts_none (IsDueOfThree (g.F.Files.contents c.args.files.now) c.args.spec.now c.args.driver.now c.args.cert.now)
    (files_data g.F.Files c.args.files.now)) (λ told. spec_is_due) c.load_specification.ensures.counts

pub returns-in-Err-load_blocks-clause-counts : goal.returns-in-Err-load_blocks-clause-counts
returns-in-Err-load_blocks-clause-counts g c =
    counts_later g.F.Files c.args.files.now c.load_specification.new.files c.load_blocks.new.files
    (IsDueOfThree (g.F.Files.contents c.args.files.now) c.args.spec.now c.args.driver.now c.args.cert.now)
    c.args.driver.now
    (counts_later g.F.Files c.args.files.now c.args.files.now c.load_specification.new.files
    (IsDueOfThree (g.F.Files.contents c.args.files.now) c.args.spec.now c.args.driver.now c.args.cert.now)
    c.args.spec.now
    (counts_none (IsDueOfThree (g.F.Files.contents c.args.files.now) c.args.spec.now c.args.driver.now c.args.cert.now)
    (files_data g.F.Files c.args.files.now)) (λ told. spec_is_due) c.load_specification.ensures.counts)
    (λ told. driver_is_due (specified c.in-Ok.ensures.read told)) c.load_blocks.ensures.counts

pub returns-in-Err-load_driver_cert-clause-counts : goal.returns-in-Err-load_driver_cert-clause-counts
returns-in-Err-load_driver_cert-clause-counts g c =
    counts_later g.F.Files c.args.files.now c.load_blocks.new.files c.load_driver_cert.new.files
    (IsDueOfThree (g.F.Files.contents c.args.files.now) c.args.spec.now c.args.driver.now c.args.cert.now)
    c.args.cert.now
    (counts_later g.F.Files c.args.files.now c.load_specification.new.files c.load_blocks.new.files
    (IsDueOfThree (g.F.Files.contents c.args.files.now) c.args.spec.now c.args.driver.now c.args.cert.now)
    c.args.driver.now
    (counts_later g.F.Files c.args.files.now c.args.files.now c.load_specification.new.files
    (IsDueOfThree (g.F.Files.contents c.args.files.now) c.args.spec.now c.args.driver.now c.args.cert.now)
    c.args.spec.now
    (counts_none (IsDueOfThree (g.F.Files.contents c.args.files.now) c.args.spec.now c.args.driver.now c.args.cert.now)
    (files_data g.F.Files c.args.files.now)) (λ told. spec_is_due) c.load_specification.ensures.counts)
    (λ told. driver_is_due (specified c.in-Ok.ensures.read told)) c.load_blocks.ensures.counts)
    (λ told. third_is_due (specified c.in-Ok.ensures.read told)
    (subst (λ (f : List ℕ → Option (List ℕ)).
    TellsBlocks f c.args.driver.now (design_tree c.in-Ok.design) (trees_of c.in-Ok-load_blocks.blocks))
    c.load_specification.ensures.files.same_contents (c.in-Ok-load_blocks.ensures.told told)))
    c.load_driver_cert.ensures.counts

pub returns-clause-counts : goal.returns-clause-counts
returns-clause-counts g c =
    counts_later g.F.Files c.args.files.now c.load_blocks.new.files c.load_driver_cert.new.files
    (IsDueOfThree (g.F.Files.contents c.args.files.now) c.args.spec.now c.args.driver.now c.args.cert.now)
    c.args.cert.now
    (counts_later g.F.Files c.args.files.now c.load_specification.new.files c.load_blocks.new.files
    (IsDueOfThree (g.F.Files.contents c.args.files.now) c.args.spec.now c.args.driver.now c.args.cert.now)
    c.args.driver.now
    (counts_later g.F.Files c.args.files.now c.args.files.now c.load_specification.new.files
    (IsDueOfThree (g.F.Files.contents c.args.files.now) c.args.spec.now c.args.driver.now c.args.cert.now)
    c.args.spec.now
    (counts_none (IsDueOfThree (g.F.Files.contents c.args.files.now) c.args.spec.now c.args.driver.now c.args.cert.now)
    (files_data g.F.Files c.args.files.now)) (λ told. spec_is_due) c.load_specification.ensures.counts)
    (λ told. driver_is_due (specified c.in-Ok.ensures.read told)) c.load_blocks.ensures.counts)
    (λ told. third_is_due (specified c.in-Ok.ensures.read told)
    (subst (λ (f : List ℕ → Option (List ℕ)).
    TellsBlocks f c.args.driver.now (design_tree c.in-Ok.design) (trees_of c.in-Ok-load_blocks.blocks))
    c.load_specification.ensures.files.same_contents (c.in-Ok-load_blocks.ensures.told told)))
    c.load_driver_cert.ensures.counts

use Rattle.std.proofs.Common.{ℕ, List, Option, [], ◌∷◌, refl, subst, arith}
use Rattle.tm_syntax.specs.Design.View.{design_tree}
use Rattle.tm_cir.specs.View.{trees_of}
use Rattle.tm_commands.specs.Inputs.{TellsBlocks, NoBlocks}
use Rattle.tm_commands.specs.Structure.{no_spec, no_driver, refuses_spec, refuses_driver}
use Rattle.tm_commands.specs.Order.{IsDueOfTwo, first_is_due, second_is_due}
use Rattle.tm_commands.specs.World.{files_data}
use Rattle.tm_commands.proofs.Loading.{counts_later, counts_none, reads_none, reads_on, stops_later}
use Rattle.tm_commands.proofs.Specifying.{specified}
use Rattle.tm_commands.proofs.input.structure.load_structure.Goals as goal

pub returns-in-Err-clause-stopped : goal.returns-in-Err-clause-stopped
returns-in-Err-clause-stopped g c =
    stops_later g.F.Files c.args.files.now c.args.files.now c.load_specification.new.files
    (c.args.spec.now ∷ c.args.driver.now ∷ [])
    (IsDueOfTwo (g.F.Files.contents c.args.files.now) c.args.spec.now c.args.driver.now) c.args.spec.now
    c.in-Err.no_specification (0, omega arith, refl) (λ told. first_is_due)
    (reads_none (files_data g.F.Files c.args.files.now)) (λ e told none. no_spec none)
    (λ e refused. refuses_spec refused) c.in-Err.ensures.stopped

pub returns-in-Ok-load_blocks-clause-loaded : goal.returns-in-Ok-load_blocks-clause-loaded
returns-in-Ok-load_blocks-clause-loaded g c = record {
  fits = c.in-Ok-load_blocks.ensures.fits;
  specified = λ tells. specified c.in-Ok.ensures.read tells;
  told = λ tells. subst
      (λ (f : List ℕ → Option (List ℕ)).
      TellsBlocks f c.args.driver.now (design_tree c.in-Ok.design) (trees_of c.in-Ok-load_blocks.blocks))
      c.load_specification.ensures.files.same_contents (c.in-Ok-load_blocks.ensures.told tells);
}

pub returns-in-Err-load_blocks-clause-stopped : goal.returns-in-Err-load_blocks-clause-stopped
returns-in-Err-load_blocks-clause-stopped g c =
    stops_later g.F.Files c.args.files.now c.load_specification.new.files c.load_blocks.new.files
    (c.args.spec.now ∷ c.args.driver.now ∷ [])
    (IsDueOfTwo (g.F.Files.contents c.args.files.now) c.args.spec.now c.args.driver.now) c.args.driver.now
    c.in-Err-load_blocks.no_blocks (1, omega arith, refl)
    (λ told. second_is_due (specified c.in-Ok.ensures.read told)) c.load_specification.ensures.files
    (λ e told none. no_driver (specified c.in-Ok.ensures.read told)
    (subst (λ (f : List ℕ → Option (List ℕ)). NoBlocks f c.args.driver.now (design_tree c.in-Ok.design) e)
    c.load_specification.ensures.files.same_contents none))
    (λ e refused. refuses_driver refused) c.in-Err-load_blocks.ensures.stopped

pub returns-in-Err-load_blocks-clause-files : goal.returns-in-Err-load_blocks-clause-files
returns-in-Err-load_blocks-clause-files g c = reads_on c.load_specification.ensures.files c.load_blocks.ensures.files

pub returns-in-Ok-load_blocks-clause-files : goal.returns-in-Ok-load_blocks-clause-files
returns-in-Ok-load_blocks-clause-files g c =
    reads_on c.load_specification.ensures.files c.load_blocks.ensures.files

pub returns-in-Err-clause-counts : goal.returns-in-Err-clause-counts
returns-in-Err-clause-counts g c =
    counts_later g.F.Files c.args.files.now c.args.files.now c.load_specification.new.files
    (IsDueOfTwo (g.F.Files.contents c.args.files.now) c.args.spec.now c.args.driver.now) c.args.spec.now
    (counts_none (IsDueOfTwo (g.F.Files.contents c.args.files.now) c.args.spec.now c.args.driver.now)
    (files_data g.F.Files c.args.files.now)) (λ told. first_is_due) c.load_specification.ensures.counts

pub returns-in-Ok-load_blocks-clause-counts : goal.returns-in-Ok-load_blocks-clause-counts
returns-in-Ok-load_blocks-clause-counts g c =
    counts_later g.F.Files c.args.files.now c.load_specification.new.files c.load_blocks.new.files
    (IsDueOfTwo (g.F.Files.contents c.args.files.now) c.args.spec.now c.args.driver.now) c.args.driver.now
    (counts_later g.F.Files c.args.files.now c.args.files.now c.load_specification.new.files
    (IsDueOfTwo (g.F.Files.contents c.args.files.now) c.args.spec.now c.args.driver.now) c.args.spec.now
    (counts_none (IsDueOfTwo (g.F.Files.contents c.args.files.now) c.args.spec.now c.args.driver.now)
    (files_data g.F.Files c.args.files.now)) (λ told. first_is_due) c.load_specification.ensures.counts)
    (λ told. second_is_due (specified c.in-Ok.ensures.read told)) c.load_blocks.ensures.counts

pub returns-in-Err-load_blocks-clause-counts : goal.returns-in-Err-load_blocks-clause-counts
returns-in-Err-load_blocks-clause-counts g c =
    counts_later g.F.Files c.args.files.now c.load_specification.new.files c.load_blocks.new.files
    (IsDueOfTwo (g.F.Files.contents c.args.files.now) c.args.spec.now c.args.driver.now) c.args.driver.now
    (counts_later g.F.Files c.args.files.now c.args.files.now c.load_specification.new.files
    (IsDueOfTwo (g.F.Files.contents c.args.files.now) c.args.spec.now c.args.driver.now) c.args.spec.now
    (counts_none (IsDueOfTwo (g.F.Files.contents c.args.files.now) c.args.spec.now c.args.driver.now)
    (files_data g.F.Files c.args.files.now)) (λ told. first_is_due) c.load_specification.ensures.counts)
    (λ told. second_is_due (specified c.in-Ok.ensures.read told)) c.load_blocks.ensures.counts

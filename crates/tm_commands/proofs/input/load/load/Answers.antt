use Rattle.std.proofs.Common.{ℕ, List, Option, [], ◌∷◌, refl, subst, ◌∙◌, arith}
use Rattle.tm_syntax.specs.Design.View.{design_tree}
use Rattle.tm_cir.specs.View.{trees_of}
use Rattle.tm_commands.specs.Inputs.{TellsBlocks, TellsScript, NoBlocks, NoScript}
use Rattle.tm_commands.specs.Run.{no_design, no_blocks, no_script, may_refuse_design, may_refuse_blocks}
use Rattle.tm_commands.specs.Run.{may_refuse_script}
use Rattle.tm_commands.specs.Order.{IsDueOfThree, spec_is_due, driver_is_due, third_is_due}
use Rattle.tm_commands.specs.World.{files_data}
use Rattle.tm_commands.proofs.Loading.{counts_later, counts_none, reads_none, reads_on, stops_later}
use Rattle.tm_commands.proofs.Specifying.{playable, specified}
use Rattle.tm_commands.proofs.input.load.load.Goals as goal

pub returns-in-Err-clause-stopped : goal.returns-in-Err-clause-stopped
returns-in-Err-clause-stopped g c =
    stops_later g.F.Files c.args.files.now c.args.files.now c.load_specification.new.files
    (c.args.spec.now ∷ c.args.driver.now ∷ c.args.choices.now ∷ [])
    (IsDueOfThree (g.F.Files.contents c.args.files.now) c.args.spec.now c.args.driver.now c.args.choices.now)
    c.args.spec.now c.in-Err.no_design (0, omega arith, refl) (λ told. spec_is_due)
    (reads_none (files_data g.F.Files c.args.files.now)) (λ e told none. no_design none)
    (λ e refused. may_refuse_design refused) c.in-Err.ensures.stopped

pub returns-in-Err-load_blocks-clause-stopped : goal.returns-in-Err-load_blocks-clause-stopped
returns-in-Err-load_blocks-clause-stopped g c =
    stops_later g.F.Files c.args.files.now c.load_specification.new.files c.load_blocks.new.files
    (c.args.spec.now ∷ c.args.driver.now ∷ c.args.choices.now ∷ [])
    (IsDueOfThree (g.F.Files.contents c.args.files.now) c.args.spec.now c.args.driver.now c.args.choices.now)
    c.args.driver.now c.in-Err-load_blocks.no_blocks (1, omega arith, refl)
    (λ told. driver_is_due (specified c.in-Ok.ensures.read told)) c.load_specification.ensures.files
    (λ e told none. no_blocks (specified c.in-Ok.ensures.read told)
    (subst (λ (f : List ℕ → Option (List ℕ)). NoBlocks f c.args.driver.now (design_tree c.in-Ok.design) e)
    c.load_specification.ensures.files.same_contents none))
    (λ e refused. may_refuse_blocks refused) c.in-Err-load_blocks.ensures.stopped

pub returns-in-Err-load_script-clause-stopped : goal.returns-in-Err-load_script-clause-stopped
returns-in-Err-load_script-clause-stopped g c =
    stops_later g.F.Files c.args.files.now c.load_blocks.new.files c.load_script.new.files
    (c.args.spec.now ∷ c.args.driver.now ∷ c.args.choices.now ∷ [])
    (IsDueOfThree (g.F.Files.contents c.args.files.now) c.args.spec.now c.args.driver.now c.args.choices.now)
    c.args.choices.now c.in-Err-load_script.no_script (2, omega arith, refl)
    (λ told. third_is_due (specified c.in-Ok.ensures.read told)
    (subst (λ (f : List ℕ → Option (List ℕ)).
    TellsBlocks f c.args.driver.now (design_tree c.in-Ok.design) (trees_of c.in-Ok-load_blocks.blocks))
    c.load_specification.ensures.files.same_contents (c.in-Ok-load_blocks.ensures.told told)))
    (reads_on c.load_specification.ensures.files c.load_blocks.ensures.files)
    (λ e told none. no_script (specified c.in-Ok.ensures.read told)
    (subst (λ (f : List ℕ → Option (List ℕ)).
    TellsBlocks f c.args.driver.now (design_tree c.in-Ok.design) (trees_of c.in-Ok-load_blocks.blocks))
    c.load_specification.ensures.files.same_contents (c.in-Ok-load_blocks.ensures.told told))
    (subst (λ (f : List ℕ → Option (List ℕ)). NoScript f c.args.choices.now (design_tree c.in-Ok.design) e)
    (c.load_blocks.ensures.files.same_contents ∙ c.load_specification.ensures.files.same_contents) none))
    (λ e refused. may_refuse_script refused) c.in-Err-load_script.ensures.stopped

pub load_script-requires : goal.load_script-requires
load_script-requires g c = playable c.in-Ok.ensures.read

pub returns-clause-told : goal.returns-clause-told
returns-clause-told g c = λ told. record {
  design = specified c.in-Ok.ensures.read told;
  blocks = subst (λ (f : List ℕ → Option (List ℕ)).
      TellsBlocks f c.args.driver.now (design_tree c.in-Ok.design) (trees_of c.in-Ok-load_blocks.blocks))
      c.load_specification.ensures.files.same_contents (c.in-Ok-load_blocks.ensures.told told);
  script = subst (λ (f : List ℕ → Option (List ℕ)).
      TellsScript f c.args.choices.now (design_tree c.in-Ok.design) c.in-Ok-load_script.script)
      (c.load_blocks.ensures.files.same_contents ∙ c.load_specification.ensures.files.same_contents)
      (c.in-Ok-load_script.ensures.told told);
}

pub returns-clause-playable : goal.returns-clause-playable
returns-clause-playable g c = playable c.in-Ok.ensures.read

pub returns-in-Err-clause-counts : goal.returns-in-Err-clause-counts
returns-in-Err-clause-counts g c =
    counts_later g.F.Files c.args.files.now c.args.files.now c.load_specification.new.files
    (IsDueOfThree (g.F.Files.contents c.args.files.now) c.args.spec.now c.args.driver.now c.args.choices.now)
    c.args.spec.now
    (counts_none (IsDueOfThree (g.F.Files.contents c.args.files.now) c.args.spec.now c.args.driver.now
    c.args.choices.now) (files_data g.F.Files c.args.files.now)) (λ told. spec_is_due)
    c.load_specification.ensures.counts

pub returns-in-Err-load_blocks-clause-counts : goal.returns-in-Err-load_blocks-clause-counts
returns-in-Err-load_blocks-clause-counts g c =
    counts_later g.F.Files c.args.files.now c.load_specification.new.files c.load_blocks.new.files
    (IsDueOfThree (g.F.Files.contents c.args.files.now) c.args.spec.now c.args.driver.now c.args.choices.now)
    c.args.driver.now
    (counts_later g.F.Files c.args.files.now c.args.files.now c.load_specification.new.files
    (IsDueOfThree (g.F.Files.contents c.args.files.now) c.args.spec.now c.args.driver.now c.args.choices.now)
    c.args.spec.now
    (counts_none (IsDueOfThree (g.F.Files.contents c.args.files.now) c.args.spec.now c.args.driver.now
    c.args.choices.now) (files_data g.F.Files c.args.files.now)) (λ told. spec_is_due)
    c.load_specification.ensures.counts)
    (λ told. driver_is_due (specified c.in-Ok.ensures.read told)) c.load_blocks.ensures.counts

pub returns-in-Err-load_script-clause-counts : goal.returns-in-Err-load_script-clause-counts
returns-in-Err-load_script-clause-counts g c =
    counts_later g.F.Files c.args.files.now c.load_blocks.new.files c.load_script.new.files
    (IsDueOfThree (g.F.Files.contents c.args.files.now) c.args.spec.now c.args.driver.now c.args.choices.now)
    c.args.choices.now
    (counts_later g.F.Files c.args.files.now c.load_specification.new.files c.load_blocks.new.files
    (IsDueOfThree (g.F.Files.contents c.args.files.now) c.args.spec.now c.args.driver.now c.args.choices.now)
    c.args.driver.now
    (counts_later g.F.Files c.args.files.now c.args.files.now c.load_specification.new.files
    (IsDueOfThree (g.F.Files.contents c.args.files.now) c.args.spec.now c.args.driver.now c.args.choices.now)
    c.args.spec.now
    (counts_none (IsDueOfThree (g.F.Files.contents c.args.files.now) c.args.spec.now c.args.driver.now
    c.args.choices.now) (files_data g.F.Files c.args.files.now)) (λ told. spec_is_due)
    c.load_specification.ensures.counts)
    (λ told. driver_is_due (specified c.in-Ok.ensures.read told)) c.load_blocks.ensures.counts)
    (λ told. third_is_due (specified c.in-Ok.ensures.read told)
    (subst (λ (f : List ℕ → Option (List ℕ)).
    TellsBlocks f c.args.driver.now (design_tree c.in-Ok.design) (trees_of c.in-Ok-load_blocks.blocks))
    c.load_specification.ensures.files.same_contents (c.in-Ok-load_blocks.ensures.told told)))
    c.load_script.ensures.counts

pub returns-clause-counts : goal.returns-clause-counts
returns-clause-counts g c =
    counts_later g.F.Files c.args.files.now c.load_blocks.new.files c.load_script.new.files
    (IsDueOfThree (g.F.Files.contents c.args.files.now) c.args.spec.now c.args.driver.now c.args.choices.now)
    c.args.choices.now
    (counts_later g.F.Files c.args.files.now c.load_specification.new.files c.load_blocks.new.files
    (IsDueOfThree (g.F.Files.contents c.args.files.now) c.args.spec.now c.args.driver.now c.args.choices.now)
    c.args.driver.now
    (counts_later g.F.Files c.args.files.now c.args.files.now c.load_specification.new.files
    (IsDueOfThree (g.F.Files.contents c.args.files.now) c.args.spec.now c.args.driver.now c.args.choices.now)
    c.args.spec.now
    (counts_none (IsDueOfThree (g.F.Files.contents c.args.files.now) c.args.spec.now c.args.driver.now
    c.args.choices.now) (files_data g.F.Files c.args.files.now)) (λ told. spec_is_due)
    c.load_specification.ensures.counts)
    (λ told. driver_is_due (specified c.in-Ok.ensures.read told)) c.load_blocks.ensures.counts)
    (λ told. third_is_due (specified c.in-Ok.ensures.read told)
    (subst (λ (f : List ℕ → Option (List ℕ)).
    TellsBlocks f c.args.driver.now (design_tree c.in-Ok.design) (trees_of c.in-Ok-load_blocks.blocks))
    c.load_specification.ensures.files.same_contents (c.in-Ok-load_blocks.ensures.told told)))
    c.load_script.ensures.counts

use Rattle.std.proofs.Common.{ℕ, List, Option, [], ◌∷◌, refl, subst, arith}
use Rattle.tm_syntax.specs.Design.View.{design_tree}
use Rattle.tm_struct.specs.View.{program_tree}
use Rattle.tm_commands.specs.Inputs.{TellsStructured, NoStructured}
use Rattle.tm_commands.specs.Structure.{no_specification, no_struct, refuses_specification, refuses_struct}
use Rattle.tm_commands.specs.Order.{IsDueOfTwo, first_is_due, second_is_due}
use Rattle.tm_commands.specs.World.{files_data}
use Rattle.tm_commands.proofs.Loading.{counts_later, counts_none, reads_none, reads_on, stops_later}
use Rattle.tm_commands.proofs.Specifying.{specified}
use Rattle.tm_commands.proofs.input.unstructure.load_unstructure.Goals as goal

pub returns-in-Err-clause-stopped : goal.returns-in-Err-clause-stopped
returns-in-Err-clause-stopped g c =
    stops_later g.F.Files c.args.files.now c.args.files.now c.load_specification.new.files
    (c.args.spec.now ∷ c.args.structured.now ∷ [])
    (IsDueOfTwo (g.F.Files.contents c.args.files.now) c.args.spec.now c.args.structured.now) c.args.spec.now
    c.in-Err.no_specification (0, omega arith, refl) (λ told. first_is_due)
    (reads_none (files_data g.F.Files c.args.files.now)) (λ e told none. no_specification none)
    (λ e refused. refuses_specification refused) c.in-Err.ensures.stopped

pub returns-in-Ok-load_structured-clause-loaded : goal.returns-in-Ok-load_structured-clause-loaded
returns-in-Ok-load_structured-clause-loaded g c = record {
  fits = c.in-Ok-load_structured.ensures.fits;
  specified = λ tells. specified c.in-Ok.ensures.read tells;
  told = λ tells. subst
      (λ (f : List ℕ → Option (List ℕ)).
      TellsStructured f c.args.structured.now (design_tree c.in-Ok.design)
      (program_tree c.in-Ok-load_structured.program))
      c.load_specification.ensures.files.same_contents (c.in-Ok-load_structured.ensures.told tells);
}

pub returns-in-Err-load_structured-clause-stopped : goal.returns-in-Err-load_structured-clause-stopped
returns-in-Err-load_structured-clause-stopped g c =
    stops_later g.F.Files c.args.files.now c.load_specification.new.files c.load_structured.new.files
    (c.args.spec.now ∷ c.args.structured.now ∷ [])
    (IsDueOfTwo (g.F.Files.contents c.args.files.now) c.args.spec.now c.args.structured.now) c.args.structured.now
    c.in-Err-load_structured.no_program (1, omega arith, refl)
    (λ told. second_is_due (specified c.in-Ok.ensures.read told)) c.load_specification.ensures.files
    (λ e told none. no_struct (specified c.in-Ok.ensures.read told)
    (subst (λ (f : List ℕ → Option (List ℕ)). NoStructured f c.args.structured.now (design_tree c.in-Ok.design) e)
    c.load_specification.ensures.files.same_contents none))
    (λ e refused. refuses_struct refused) c.in-Err-load_structured.ensures.stopped

pub returns-in-Err-load_structured-clause-files : goal.returns-in-Err-load_structured-clause-files
returns-in-Err-load_structured-clause-files g c =
    reads_on c.load_specification.ensures.files c.load_structured.ensures.files

pub returns-in-Ok-load_structured-clause-files : goal.returns-in-Ok-load_structured-clause-files
returns-in-Ok-load_structured-clause-files g c =
    reads_on c.load_specification.ensures.files c.load_structured.ensures.files

pub returns-in-Err-clause-counts : goal.returns-in-Err-clause-counts
returns-in-Err-clause-counts g c =
    counts_later g.F.Files c.args.files.now c.args.files.now c.load_specification.new.files
    (IsDueOfTwo (g.F.Files.contents c.args.files.now) c.args.spec.now c.args.structured.now) c.args.spec.now
    (counts_none (IsDueOfTwo (g.F.Files.contents c.args.files.now) c.args.spec.now c.args.structured.now)
    (files_data g.F.Files c.args.files.now)) (λ told. first_is_due) c.load_specification.ensures.counts

pub returns-in-Ok-load_structured-clause-counts : goal.returns-in-Ok-load_structured-clause-counts
returns-in-Ok-load_structured-clause-counts g c =
    counts_later g.F.Files c.args.files.now c.load_specification.new.files c.load_structured.new.files
    (IsDueOfTwo (g.F.Files.contents c.args.files.now) c.args.spec.now c.args.structured.now) c.args.structured.now
    (counts_later g.F.Files c.args.files.now c.args.files.now c.load_specification.new.files
    (IsDueOfTwo (g.F.Files.contents c.args.files.now) c.args.spec.now c.args.structured.now) c.args.spec.now
    (counts_none (IsDueOfTwo (g.F.Files.contents c.args.files.now) c.args.spec.now c.args.structured.now)
    (files_data g.F.Files c.args.files.now)) (λ told. first_is_due) c.load_specification.ensures.counts)
    (λ told. second_is_due (specified c.in-Ok.ensures.read told)) c.load_structured.ensures.counts

pub returns-in-Err-load_structured-clause-counts : goal.returns-in-Err-load_structured-clause-counts
returns-in-Err-load_structured-clause-counts g c =
    counts_later g.F.Files c.args.files.now c.load_specification.new.files c.load_structured.new.files
    (IsDueOfTwo (g.F.Files.contents c.args.files.now) c.args.spec.now c.args.structured.now) c.args.structured.now
    (counts_later g.F.Files c.args.files.now c.args.files.now c.load_specification.new.files
    (IsDueOfTwo (g.F.Files.contents c.args.files.now) c.args.spec.now c.args.structured.now) c.args.spec.now
    (counts_none (IsDueOfTwo (g.F.Files.contents c.args.files.now) c.args.spec.now c.args.structured.now)
    (files_data g.F.Files c.args.files.now)) (λ told. first_is_due) c.load_specification.ensures.counts)
    (λ told. second_is_due (specified c.in-Ok.ensures.read told)) c.load_structured.ensures.counts

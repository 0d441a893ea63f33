-- The end of `structure` is one, how it is stopped, and what it writes.
use Rattle.std.proofs.Common.{◌≡◌, ◌∙◌, ℕ, Option, Some, Result, Ok, Err, List, [], ◌∷◌, length, refl, sym, ap, subst}
use Rattle.std.proofs.Common.{arith}
use Rattle.std.specs.Prelude.{IsTrue}
use Rattle.tm_base.specs.declared.files.Files.{Ghosts as FilesGhosts}
use Rattle.tm_syntax.specs.Design.{DesignTree}
use Rattle.tm_cir.specs.Tree.{BlockTree}
use Rattle.tm_struct.specs.Shape.{IsShape}
use Rattle.tm_struct.specs.Tree.{ProgramTree}
use Rattle.tm_struct.proofs.OneShape.{one_shape}
use Rattle.tm_report.specs.declared.ending.Ending.{Ending}
use Rattle.tm_report.specs.declared.ending.Ending.TheVariants.{Structured}
use Rattle.tm_report.specs.declared.ending.Failure.{Failure}
use Rattle.tm_report.specs.declared.ending.Failure.TheVariants.{Memory}
use Rattle.tm_report.specs.Output.{SinkData}
use Rattle.tm_commands.specs.declared.stop.Stop.{Stop}
use Rattle.tm_commands.specs.Words.{structure}
use Rattle.tm_commands.specs.World.{FilesData, files_data, OnlyReads, OnlyTouches, OnlyWrites}
use Rattle.tm_commands.specs.Inputs.{TellsSpecification, TellsBlocks, refuses_specification, refuses_long_driver}
use Rattle.tm_commands.specs.Inputs.{refuses_bad_driver}
use Rattle.tm_commands.specs.Structure.{StructureEnds, no_spec, no_driver, structures, StructureRefuses, refuses_spec}
use Rattle.tm_commands.specs.Structure.{refuses_driver, may_be_refused, may_structure, IsShapeText, StructureLeaves}
use Rattle.tm_commands.specs.Order.{IsDueOfTwo}
use Rattle.tm_commands.specs.Inner.Obeying.{Obeys}
use Rattle.tm_commands.specs.Inner.Reading.{IsStructureRead}
use Rattle.tm_commands.specs.Inner.Stopping.{StopsBy, stop_outcome, IsLoadFailure, IsRefusal, IsWriteFailure}
use Rattle.tm_commands.proofs.Completing.{blocks_of, blocks_read, no_blocks_of, one_no_blocks, told_blocks}
use Rattle.tm_commands.proofs.Running.{stopped_obeys, unread_obeys}
use Rattle.tm_commands.proofs.Telling.{one_no_specification, specification_read, told_specification}
use Rattle.tm_commands.proofs.Writing.{touches_written, unwritten_obeys, written_obeys}

-- `structure` has one end
module _ (contents : List ℕ → Option (List ℕ)) (spec driver : List ℕ) where
  -- two shapes of what the files tell are one
  same_shape : (d e : DesignTree) (bs cs : List BlockTree) (p q : ProgramTree) → TellsSpecification contents spec d →
      TellsSpecification contents spec e → TellsBlocks contents driver d bs → TellsBlocks contents driver e cs →
      IsShape bs p → IsShape cs q → p ≡ q
  same_shape d e bs cs p q read also told others shape other =
      let here = blocks_of contents spec driver driver d e cs read also others in
      let same = told_blocks contents driver d cs bs here told in
      one_shape d bs told.is.is.fits p q shape (subst (λ (x : List BlockTree). IsShape x q) same other)

  pub one_structure_end : (one other : Ending) → StructureEnds contents spec driver one →
      StructureEnds contents spec driver other → one ≡ other
  one_structure_end one other (no_spec p) (no_spec q) = one_no_specification contents spec one other p q
  one_structure_end one other (no_spec p) (no_driver {d = d} read q) =
      absurd (specification_read contents spec d one read p)
  one_structure_end one _ (no_spec p) (structures {d = d} read told shape) =
      absurd (specification_read contents spec d one read p)
  one_structure_end one other (no_driver {d = d} read p) (no_spec q) =
      absurd (specification_read contents spec d other read q)
  one_structure_end one other (no_driver {d = d} read p) (no_driver {d = e} also q) =
      one_no_blocks contents driver d one other p (no_blocks_of contents spec driver driver d e other read also q)
  one_structure_end one _ (no_driver {d = d} read p) (structures {d = e} {bs = bs} also told shape) =
      absurd (blocks_read contents driver spec d bs one read
      (blocks_of contents spec driver driver d e bs read also told) p)
  one_structure_end _ other (structures {d = d} read told shape) (no_spec q) =
      absurd (specification_read contents spec d other read q)
  one_structure_end _ other (structures {d = d} {bs = bs} read told shape) (no_driver {d = e} also q) =
      absurd (blocks_read contents driver spec d bs other read told
      (no_blocks_of contents spec driver driver d e other read also q))
  one_structure_end _ _ (structures {d = d} {bs = bs} {p = p} read told shape)
      (structures {d = e} {bs = cs} {p = q} also others other) =
      ap (λ (x : ProgramTree). Structured (length x.functions))
      (same_shape d e bs cs p q read also told others shape other)

module _ (spec driver out : List ℕ) (old new : FilesData) where
  refused_leaves : (ending : Ending) → StructureRefuses driver ending → new.contents ≡ old.contents →
      StructureLeaves old.contents new.contents spec driver out ending
  refused_leaves ending (refuses_spec refuses_specification) same = same
  refused_leaves ending (refuses_driver refuses_long_driver) same = same
  refused_leaves ending (refuses_driver refuses_bad_driver) same = same

  -- `structure` was stopped before it wrote
  pub stopped_structuring : (sink : SinkData) (stop : Stop) (outcome : Result Ending Failure) →
      outcome ≡ stop_outcome stop → OnlyReads old new →
      StopsBy (IsRefusal (StructureEnds old.contents spec driver) (StructureRefuses driver) old new)
      (IsLoadFailure (spec ∷ driver ∷ []) (IsDueOfTwo old.contents spec driver) old new) stop →
      Obeys (Some (structure spec driver out)) old new sink sink outcome
  stopped_structuring =
      stopped_obeys (Some (structure spec driver out)) (StructureEnds old.contents spec driver)
      (StructureRefuses driver) old new (λ tells. tells) (λ is. cc) (λ ending cause. (refl, cause))
      (λ ending cause text other ends. one_structure_end old.contents spec driver ending other cause ends.1)
      (λ ending named. may_be_refused named) refused_leaves

  -- memory ran out before `structure` wrote
  pub wanting_structuring : (sink : SinkData) → OnlyReads old new →
      Obeys (Some (structure spec driver out)) old new sink sink (Err Memory)
  wanting_structuring sink left =
      unread_obeys (Some (structure spec driver out)) (StructureEnds old.contents spec driver)
      (StructureRefuses driver) old new (λ tells. tells) (λ is. cc) (λ ending cause. (refl, cause))
      (λ ending cause text other ends. one_structure_end old.contents spec driver ending other cause ends.1)
      (λ ending named. may_be_refused named) refused_leaves sink Memory left tt

-- the shape of blocks
module _ (spec driver name : List ℕ) {A : Type 0} (F : FilesGhosts A) (x y z : A) (out : SinkData)
    (read : OnlyReads (files_data F x) (files_data F y)) (wrote : OnlyWrites name (files_data F y) (files_data F z))
    (d : DesignTree) (bs : List BlockTree) (are : IsStructureRead F.tells (F.contents x) spec driver d bs) where
  touched_structuring : OnlyTouches (spec ∷ driver ∷ []) (name ∷ []) (files_data F x) (files_data F z)
  touched_structuring =
      touches_written (spec ∷ driver ∷ []) name (files_data F x) (files_data F y) (files_data F z)
      (λ is. absurd (cc)) read wrote

  -- was not written
  pub unstructured_obeys : (failure : Failure) → (name ≡ [] → ⊥) →
      IsWriteFailure name (files_data F y) (files_data F z) failure →
      Obeys (Some (structure spec driver name)) (files_data F x) (files_data F z) out out (Err failure)
  unstructured_obeys failure named failed =
      unwritten_obeys (Some (structure spec driver name)) name named (λ n is. (0, omega arith, sym is)) F x y z
      read.same_writes (λ tells. (d, bs, are.specified tells, are.told tells)) (λ n is tells. tt)
      touched_structuring out failure failed

  -- was written
  pub structured_obeys : (text : List ℕ) (n : ℕ) → IsShapeText d bs text n →
      (IsTrue F.tells → F.contents z name ≡ Some text) →
      Obeys (Some (structure spec driver name)) (files_data F x) (files_data F z) out out (Ok (Structured n))
  structured_obeys text n made holds =
      written_obeys (Some (structure spec driver name)) (files_data F x) (files_data F z) out (Structured n)
      (λ told. (refl, ends told))
      (λ told t other also. one_structure_end (F.contents x) spec driver (Structured n) other (ends told) also.1)
      may_structure (record { specification = λ is. cc; file = λ file is. cc }) touched_structuring
      (λ tells. record {
        design = d;
        blocks = bs;
        text = text;
        specified = are.specified tells;
        told = are.told tells;
        written = holds tells;
        shape = made;
      })
    where
      ends : IsTrue F.tells → StructureEnds (F.contents x) spec driver (Structured n)
      ends told =
          subst (λ (k : ℕ). StructureEnds (F.contents x) spec driver (Structured k)) made.many
          (structures (are.specified told) (are.told told) made.shape)

-- The end of `unstructure` is one but for the number of blocks, how it is stopped, and what it writes.
use Rattle.std.proofs.Common.{◌≡◌, ℕ, Option, Some, Result, Ok, Err, List, [], ◌∷◌, refl, sym, ap, subst, arith}
use Rattle.std.specs.Prelude.{IsTrue}
use Rattle.tm_base.specs.declared.files.Files.{Ghosts as FilesGhosts}
use Rattle.tm_syntax.specs.Design.{DesignTree}
use Rattle.tm_struct.specs.Tree.{ProgramTree}
use Rattle.tm_struct_parse.specs.declared.bad.BadStructured.{BadStructured}
use Rattle.tm_struct_parse.specs.Faults.{HasFault, IsStructuredFile}
use Rattle.tm_struct_parse.proofs.Files.{file_no_fault}
use Rattle.tm_struct_parse.proofs.OneFault.{one_fault}
use Rattle.tm_report.specs.declared.ending.Bad.TheVariants.{Structured}
use Rattle.tm_report.specs.declared.ending.Ending.{Ending}
use Rattle.tm_report.specs.declared.ending.Ending.TheVariants.{BadText, Unstructured}
use Rattle.tm_report.specs.declared.ending.Failure.{Failure}
use Rattle.tm_report.specs.declared.ending.Failure.TheVariants.{Memory}
use Rattle.tm_report.specs.Output.{SinkData}
use Rattle.tm_commands.specs.declared.stop.Stop.{Stop}
use Rattle.tm_commands.specs.Words.{unstructure}
use Rattle.tm_commands.specs.World.{FilesData, files_data, OnlyReads, OnlyTouches, OnlyWrites}
use Rattle.tm_commands.specs.Inputs.{TellsSpecification, TellsStructured, NoSpecification, NoStructured, long_struct}
use Rattle.tm_commands.specs.Inputs.{bad_struct, faulty_spec, refuses_specification as is_faulty, refuses_long_struct}
use Rattle.tm_commands.specs.Inputs.{refuses_bad_struct}
use Rattle.tm_commands.specs.Structure.{UnstructureEnds, no_specification, no_struct, unstructures, UnstructureRefuses}
use Rattle.tm_commands.specs.Structure.{refuses_specification, refuses_struct, may_not_be_read, may_unstructure}
use Rattle.tm_commands.specs.Structure.{AreAlikeBlocks, AreBlocksOf, UnstructureLeaves}
use Rattle.tm_commands.specs.Order.{IsDueOfTwo}
use Rattle.tm_commands.specs.Inner.Obeying.{Obeys}
use Rattle.tm_commands.specs.Inner.Reading.{IsUnstructureRead}
use Rattle.tm_commands.specs.Inner.Stopping.{StopsBy, stop_outcome, IsLoadFailure, IsRefusal, IsWriteFailure}
use Rattle.tm_commands.proofs.Running.{stopped_obeys, unread_obeys}
use Rattle.tm_commands.proofs.Telling.{not_longer, one_no_specification, one_text, specification_read}
use Rattle.tm_commands.proofs.Telling.{told_specification}
use Rattle.tm_commands.proofs.Texts.{design_names}
use Rattle.tm_commands.proofs.Writing.{touches_written, unwritten_obeys, written_obeys}

module _ (contents : List ℕ → Option (List ℕ)) (spec struct : List ℕ) where
  -- what STRUCT tells, or why it tells nothing, over the design that SPEC tells, it tells over any other that it tells
  module _ (d e : DesignTree) (p : TellsSpecification contents spec d) (q : TellsSpecification contents spec e) where
    struct_of : (program : ProgramTree) → TellsStructured contents struct e program →
        TellsStructured contents struct d program
    struct_of program told =
        subst (λ (x : DesignTree). TellsStructured contents struct x program)
        (told_specification contents spec e d q p) told

    no_struct_of : (ending : Ending) → NoStructured contents struct e ending → NoStructured contents struct d ending
    no_struct_of ending none =
        subst (λ (x : DesignTree). NoStructured contents struct x ending) (told_specification contents spec e d q p)
        none

  -- a file that tells a structured driver is not refused
  struct_read : (d : DesignTree) (p : ProgramTree) (ending : Ending) → TellsSpecification contents spec d →
      TellsStructured contents struct d p → NoStructured contents struct d ending → ⊥
  struct_read d p ending design told (long_struct long) =
      not_longer (contents struct) told.text told.told told.is.short long
  struct_read d p ending design told (bad_struct {bad = bad} q) =
      file_no_fault d q.text p bad (design_names design.text design.tokens d design.is)
      (subst (λ (t : List ℕ). IsStructuredFile d t p) (one_text contents struct q.text told.text q.told told.told)
      told.is) q.fault

  -- a file is refused for one cause
  one_no_struct : (d : DesignTree) (one other : Ending) → NoStructured contents struct d one →
      NoStructured contents struct d other → one ≡ other
  one_no_struct d one other (long_struct p) (long_struct q) = refl
  one_no_struct d one other (long_struct p) (bad_struct q) =
      absurd (not_longer (contents struct) q.text q.told q.short p)
  one_no_struct d one other (bad_struct p) (long_struct q) =
      absurd (not_longer (contents struct) p.text p.told p.short q)
  one_no_struct d one other (bad_struct {bad = bad} p) (bad_struct {bad = found} q) =
      ap (λ (b : BadStructured). BadText struct (Structured b))
      (one_fault d p.text bad found p.fault
      (subst (λ (t : List ℕ). HasFault d t found) (one_text contents struct p.text q.text p.told q.told) q.fault))

  -- ends that are equal are alike, where one tells that a file is refused
  alike_faulty : (one other : Ending) → NoSpecification contents spec one → one ≡ other → AreAlikeBlocks one other
  alike_faulty _ other (faulty_spec fault) is = is

  alike_bad : (d : DesignTree) (one other : Ending) → NoStructured contents struct d one → one ≡ other →
      AreAlikeBlocks one other
  alike_bad d _ other (long_struct long) is = is
  alike_bad d _ other (bad_struct bad) is = is

  -- `unstructure` has one end but for the number of blocks
  pub one_unstructure_end : (one other : Ending) → UnstructureEnds contents spec struct one →
      UnstructureEnds contents spec struct other → AreAlikeBlocks one other
  one_unstructure_end one other (no_specification p) (no_specification q) =
      alike_faulty one other p (one_no_specification contents spec one other p q)
  one_unstructure_end one other (no_specification p) (no_struct {d = d} read q) =
      absurd (specification_read contents spec d one read p)
  one_unstructure_end one _ (no_specification p) (unstructures {d = d} read told) =
      absurd (specification_read contents spec d one read p)
  one_unstructure_end one other (no_struct {d = d} read p) (no_specification q) =
      absurd (specification_read contents spec d other read q)
  one_unstructure_end one other (no_struct {d = d} read p) (no_struct {d = e} also q) =
      alike_bad d one other p (one_no_struct d one other p (no_struct_of d e read also other q))
  one_unstructure_end one _ (no_struct {d = d} read p) (unstructures {d = e} {p = program} also told) =
      absurd (struct_read d program one read (struct_of d e read also program told) p)
  one_unstructure_end _ other (unstructures {d = d} read told) (no_specification q) =
      absurd (specification_read contents spec d other read q)
  one_unstructure_end _ other (unstructures {d = d} {p = program} read told) (no_struct {d = e} also q) =
      absurd (struct_read d program other read told (no_struct_of d e read also other q))
  one_unstructure_end _ _ (unstructures read told) (unstructures also others) = tt

module _ (spec struct out : List ℕ) (old new : FilesData) where
  refused_leaves : (ending : Ending) → UnstructureRefuses struct ending → new.contents ≡ old.contents →
      UnstructureLeaves old.contents new.contents spec struct out ending
  refused_leaves ending (refuses_specification is_faulty) same = same
  refused_leaves ending (refuses_struct refuses_long_struct) same = same
  refused_leaves ending (refuses_struct refuses_bad_struct) same = same

  -- `unstructure` was stopped before it wrote
  pub stopped_unstructuring : (sink : SinkData) (stop : Stop) (outcome : Result Ending Failure) →
      outcome ≡ stop_outcome stop → OnlyReads old new →
      StopsBy (IsRefusal (UnstructureEnds old.contents spec struct) (UnstructureRefuses struct) old new)
      (IsLoadFailure (spec ∷ struct ∷ []) (IsDueOfTwo old.contents spec struct) old new) stop →
      Obeys (Some (unstructure spec struct out)) old new sink sink outcome
  stopped_unstructuring =
      stopped_obeys (Some (unstructure spec struct out)) (UnstructureEnds old.contents spec struct)
      (UnstructureRefuses struct) old new (λ tells. tells) (λ is. cc) (λ ending cause. (refl, cause))
      (λ ending cause text other ends. one_unstructure_end old.contents spec struct ending other cause ends.1)
      (λ ending named. may_not_be_read named) refused_leaves

  -- memory ran out before `unstructure` wrote
  pub wanting_unstructuring : (sink : SinkData) → OnlyReads old new →
      Obeys (Some (unstructure spec struct out)) old new sink sink (Err Memory)
  wanting_unstructuring sink left =
      unread_obeys (Some (unstructure spec struct out)) (UnstructureEnds old.contents spec struct)
      (UnstructureRefuses struct) old new (λ tells. tells) (λ is. cc) (λ ending cause. (refl, cause))
      (λ ending cause text other ends. one_unstructure_end old.contents spec struct ending other cause ends.1)
      (λ ending named. may_not_be_read named) refused_leaves sink Memory left tt

-- the blocks of a structured driver
module _ (spec struct name : List ℕ) {A : Type 0} (F : FilesGhosts A) (x y z : A) (out : SinkData)
    (read : OnlyReads (files_data F x) (files_data F y)) (wrote : OnlyWrites name (files_data F y) (files_data F z))
    (d : DesignTree) (p : ProgramTree) (are : IsUnstructureRead F.tells (F.contents x) spec struct d p) where
  touched_unstructuring : OnlyTouches (spec ∷ struct ∷ []) (name ∷ []) (files_data F x) (files_data F z)
  touched_unstructuring =
      touches_written (spec ∷ struct ∷ []) name (files_data F x) (files_data F y) (files_data F z)
      (λ is. absurd (cc)) read wrote

  -- were not written
  pub unblocked_obeys : (failure : Failure) → (name ≡ [] → ⊥) →
      IsWriteFailure name (files_data F y) (files_data F z) failure →
      Obeys (Some (unstructure spec struct name)) (files_data F x) (files_data F z) out out (Err failure)
  unblocked_obeys failure named failed =
      unwritten_obeys (Some (unstructure spec struct name)) name named (λ n is. (0, omega arith, sym is)) F x y z
      read.same_writes (λ tells. (d, p, are.specified tells, are.told tells)) (λ n is tells. tt)
      touched_unstructuring out failure failed

  -- were written
  pub blocked_obeys : (text : List ℕ) (n : ℕ) → AreBlocksOf d p text n →
      (IsTrue F.tells → F.contents z name ≡ Some text) →
      Obeys (Some (unstructure spec struct name)) (files_data F x) (files_data F z) out out (Ok (Unstructured n))
  blocked_obeys text n made holds =
      written_obeys (Some (unstructure spec struct name)) (files_data F x) (files_data F z) out (Unstructured n)
      (λ told. (refl, unstructures (are.specified told) (are.told told)))
      (λ told t other also. one_unstructure_end (F.contents x) spec struct (Unstructured n) other
      (unstructures (are.specified told) (are.told told)) also.1)
      may_unstructure (record { specification = λ is. cc; file = λ file is. cc }) touched_unstructuring
      (λ tells. record {
        design = d;
        program = p;
        text = text;
        specified = are.specified tells;
        told = are.told tells;
        written = holds tells;
        blocks = made;
      })

-- How a command that writes a file is obeyed.
use Rattle.std.proofs.Common.{◌≡◌, ℕ, Option, Some, Ok, Err, List, [], ◌∷◌, refl, sym, ap, subst}
use Rattle.std.proofs.Common.{◌∙◌, arith}
use Rattle.std.specs.Prelude.{IsTrue, Contains}
use Rattle.std.proofs.lemmas.List.{append-nil}
use Rattle.serde_json.specs.Data.{Data}
use Rattle.tm_base.specs.Count.{Rose}
use Rattle.tm_base.specs.declared.files.Files.{Ghosts as FilesGhosts}
use Rattle.tm_cert.specs.declared.cert.Cert.{Cert as Certificate}
use Rattle.tm_cert.specs.declared.shape.CertShape.{CertShape}
use Rattle.tm_cert.specs.declared.shape.Kind.TheVariants.{Either}
use Rattle.tm_cert.specs.CertValue.{IsCert, IsCertText}
use Rattle.tm_cert.specs.Written.{cert_text}
use Rattle.tm_gen.specs.Generated.{generated_text}
use Rattle.tm_judge.specs.Shape.{shape_of}
use Rattle.tm_report.specs.declared.ending.Ending.{Ending}
use Rattle.tm_report.specs.declared.ending.Ending.TheVariants.{Generated, Migrated}
use Rattle.tm_report.specs.declared.ending.Failure.{Failure}
use Rattle.tm_report.specs.declared.ending.Failure.TheVariants.{ReadFault, WriteFault, Memory}
use Rattle.tm_commands.specs.Words.{Command, generate, migrate}
use Rattle.tm_commands.specs.World.{FilesData, files_data, OnlyReads, OnlyWrites, OnlyTouches}
use Rattle.tm_report.specs.Output.{SinkData}
use Rattle.tm_commands.specs.Commands.{read_names, write_names, CommandEnds, CommandLeaves, IsAnswered, IsCommandPart}
use Rattle.tm_commands.specs.Commands.{CommandBreaksOff, MayEnd}
use Rattle.tm_commands.specs.Migrate.{migrates, may_migrate}
use Rattle.tm_commands.specs.Headline.{AreTold, IsLongShown, IsShown, Leaves}
use Rattle.tm_commands.specs.Order.{IsWriteDue}
use Rattle.tm_commands.specs.Inner.Stopping.{IsWriteFailure}
use Rattle.tm_commands.specs.Inner.Reading.{IsMigration}
use Rattle.tm_commands.specs.Inner.Obeying.{PutBefore, Obeys}
use Rattle.tm_commands.proofs.Loading.{reads_none}
use Rattle.tm_commands.proofs.Migrating.{one_migrate_end}
use Rattle.tm_play.proofs.Putting.{cut_nothing}
use Rattle.tm_commands.proofs.Running.{grows_none, nothing_put}

-- a write behind reads changes no other file
pub touches_written : (reads : List (List ℕ)) (name : List ℕ) (old mid new : FilesData) →
    (reads ≡ [] → (mid.read_faults ≡ old.read_faults) × (mid.bytes_taken ≡ old.bytes_taken)) → OnlyReads old mid →
    OnlyWrites name mid new → OnlyTouches reads (name ∷ []) old new
touches_written reads name old mid new none read wrote = record {
  same_others = λ n other. wrote.same_others n (λ is. other (0, omega arith, sym is))
      ∙ ap (λ (f : List ℕ → Option (List ℕ)). f n) read.same_contents;
  no_fewer_read_faults =
      λ n. let same = ap (λ (f : List ℕ → ℕ). f n) wrote.same_reads in omega (arith, same, read.no_fewer_faults n);
  no_fewer_write_faults =
      λ n. let same = ap (λ (f : List ℕ → ℕ). f n) read.same_writes in omega (arith, same, wrote.no_fewer_faults n);
  no_fewer_bytes = omega (arith, wrote.same_bytes, read.no_fewer_bytes);
  nothing_read = λ is. (wrote.same_reads ∙ (none is).0, wrote.same_bytes ∙ (none is).1);
  nothing_written = λ is. absurd (cc);
}

module _ (command : Option Command) (name : List ℕ) (named : name ≡ [] → ⊥)
    (written : (n : List ℕ) → n ≡ name → Contains (write_names command) n) {A : Type 0} (F : FilesGhosts A)
    (x y z : A) (same : F.write_faults y ≡ F.write_faults x)
    (due : IsTrue F.tells → IsWriteDue (F.contents x) command)
    (breaks : (n : List ℕ) → n ≡ name → IsTrue F.tells → CommandBreaksOff (F.contents x) (F.contents z) command n)
    (touched : OnlyTouches (read_names command) (write_names command) (files_data F x) (files_data F z)) where
  put_none : (before : List ℕ) (failure : Failure) →
      IsWriteFailure name (files_data F y) (files_data F z) failure →
      PutBefore (IsCommandPart (F.contents x) command) before before failure
  put_none before Memory failed = ([], nothing_put (F.contents x) command, cut_nothing before)
  put_none before (ReadFault n) failed = elim failed [ ]
  put_none before (WriteFault []) failed = absurd (named (sym failed.0))
  put_none before (WriteFault (b ∷ bs)) failed = refl

  rose_before : (n : List ℕ) → n ≡ name → Rose F.last_count (F.write_faults y name) (F.write_faults z name) →
      Rose F.last_count (F.write_faults x n) (F.write_faults z n)
  rose_before n is rose =
      subst (λ (m : List ℕ). Rose F.last_count (F.write_faults x m) (F.write_faults z m)) (sym is)
      (subst (λ (f : List ℕ → ℕ). Rose F.last_count (f name) (F.write_faults z name)) same rose)

  write_shown : (out : SinkData) (failure : Failure) →
      IsWriteFailure name (files_data F y) (files_data F z) failure →
      IsShown command (files_data F x) (files_data F z) out out failure
  write_shown out Memory failed = tt
  write_shown out (ReadFault n) failed = elim failed [ ]
  write_shown out (WriteFault []) failed = absurd (named (sym failed.0))
  write_shown out (WriteFault (b ∷ bs)) failed =
      (written (b ∷ bs) failed.0, rose_before (b ∷ bs) failed.0 failed.1, due)

  unwritten_leaves : (failure : Failure) → IsWriteFailure name (files_data F y) (files_data F z) failure →
      IsTrue F.tells → Leaves command (files_data F x) (files_data F z) (Err failure)
  unwritten_leaves Memory failed tells = tt
  unwritten_leaves (ReadFault n) failed tells = elim failed [ ]
  unwritten_leaves (WriteFault []) failed tells = absurd (named (sym failed.0))
  unwritten_leaves (WriteFault (b ∷ bs)) failed tells = breaks (b ∷ bs) failed.0 tells

  pub unwritten_obeys : (out : SinkData) (failure : Failure) →
      IsWriteFailure name (files_data F y) (files_data F z) failure →
      Obeys command (files_data F x) (files_data F z) out out (Err failure)
  unwritten_obeys out failure failed = record {
    ends = λ told. tt;
    complete = λ told. tt;
    cut = λ told sink. put_none out.written failure failed;
    grows = λ sink. grows_none out.written;
    may_end = tt;
    shown = write_shown out failure failed;
    long = tt;
    files = record { touched = touched; left = unwritten_leaves failure failed };
    no_fewer_faults = omega arith;
  }

-- a command that reads files and then writes one came to an end
pub written_obeys : (command : Option Command) (old new : FilesData) (out : SinkData) (ending : Ending) →
    (AreTold old (read_names command) → CommandEnds old.contents command [] ending) →
    (AreTold old (read_names command) → (text : List ℕ) (other : Ending) →
    CommandEnds old.contents command text other → IsAnswered command ending other) →
    MayEnd command ending → IsLongShown old new ending →
    OnlyTouches (read_names command) (write_names command) old new →
    (IsTrue old.tells → CommandLeaves old.contents new.contents command ending) →
    Obeys command old new out out (Ok ending)
written_obeys command old new out ending ends only may long touched leaves = record {
  ends = λ told. ([], ends told, λ sink. sym (append-nil out.written));
  complete = only;
  cut = λ told sink. tt;
  grows = λ sink. grows_none out.written;
  may_end = may;
  shown = tt;
  long = long;
  files = record { touched = touched; left = leaves };
  no_fewer_faults = omega arith;
}

-- the specification of so many registers
module _ (registers : ℕ) (name : List ℕ) {A : Type 0} (F : FilesGhosts A) (x z : A) (out : SinkData)
    (wrote : OnlyWrites name (files_data F x) (files_data F z)) where
  touched_generating : OnlyTouches [] (name ∷ []) (files_data F x) (files_data F z)
  touched_generating =
      touches_written [] name (files_data F x) (files_data F x) (files_data F z) (λ is. (refl, refl))
      (reads_none (files_data F x)) wrote

  -- was not written
  pub ungenerated_obeys : (failure : Failure) → (name ≡ [] → ⊥) →
      IsWriteFailure name (files_data F x) (files_data F z) failure →
      Obeys (Some (generate registers name)) (files_data F x) (files_data F z) out out (Err failure)
  ungenerated_obeys failure named failed =
      unwritten_obeys (Some (generate registers name)) name named (λ n is. (0, omega arith, sym is)) F x x z refl
      (λ tells. tt) (λ n is tells. tt) touched_generating out failure failed

  -- was written
  pub generated_obeys : (IsTrue F.tells → F.contents z name ≡ Some (generated_text registers)) →
      Obeys (Some (generate registers name)) (files_data F x) (files_data F z) out out (Ok (Generated registers))
  generated_obeys holds = record {
    ends = λ told. ([], (refl, refl), λ sink. sym (append-nil out.written));
    complete = λ told text other ends. sym ends.1;
    cut = λ told sink. tt;
    grows = λ sink. grows_none out.written;
    may_end = refl;
    shown = tt;
    long = record { specification = λ is. cc; file = λ file is. cc };
    files = record { touched = touched_generating; left = holds };
    no_fewer_faults = omega arith;
  }

-- a certificate
module _ (spec cert name : List ℕ) {A : Type 0} (F : FilesGhosts A) (x y z : A) (out : SinkData)
    (read : OnlyReads (files_data F x) (files_data F y))
    (wrote : OnlyWrites name (files_data F y) (files_data F z)) where
  touched_migrating : OnlyTouches (spec ∷ cert ∷ []) (name ∷ []) (files_data F x) (files_data F z)
  touched_migrating =
      touches_written (spec ∷ cert ∷ []) name (files_data F x) (files_data F y) (files_data F z) (λ is. absurd (cc))
      read wrote

  -- was not written
  pub unmigrated_obeys : (shape : CertShape) (c : Certificate) (failure : Failure) →
      IsMigration F.tells (F.contents x) spec cert shape c → (name ≡ [] → ⊥) →
      IsWriteFailure name (files_data F y) (files_data F z) failure →
      Obeys (Some (migrate spec cert name)) (files_data F x) (files_data F z) out out (Err failure)
  unmigrated_obeys shape c failure m named failed =
      unwritten_obeys (Some (migrate spec cert name)) name named (λ n is. (0, omega arith, sym is)) F x y z
      read.same_writes (λ tells. (m.design, c, m.specified tells, m.certified tells)) (λ n is tells. tt)
      touched_migrating out failure failed

  -- was written
  pub migrated_obeys : (shape : CertShape) (c : Certificate) (text : List ℕ) →
      IsMigration F.tells (F.contents x) spec cert shape c → text ≡ cert_text shape.bits c →
      ((s : CertShape) (d : Data) → s.bits ≡ shape.bits → IsCert s d c → IsCertText s text c) →
      (IsTrue F.tells → F.contents z name ≡ Some text) →
      Obeys (Some (migrate spec cert name)) (files_data F x) (files_data F z) out out (Ok Migrated)
  migrated_obeys shape c text m is reads_back holds = record {
    ends = λ told. (
      [],
      (refl, migrates (m.specified told) (m.certified told)),
      λ sink. sym (append-nil out.written),
    );
    complete = λ told text other ends.
        one_migrate_end (F.contents x) spec cert Migrated other (migrates (m.specified told) (m.certified told)) ends.1;
    cut = λ told sink. tt;
    grows = λ sink. grows_none out.written;
    may_end = may_migrate;
    shown = tt;
    long = record { specification = λ is. cc; file = λ file is. cc };
    files = record {
      touched = touched_migrating;
      left = λ tells. record {
        design = m.design;
        certificate = c;
        specified = m.specified tells;
        told = m.certified tells;
        written = holds tells ∙ ap (λ (t : List ℕ). Some t) text_is;
        same = subst (λ (t : List ℕ). IsCertText (shape_of m.design Either) t c) text_is
            (reads_back (shape_of m.design Either) (m.certified tells).is.1.0 bits_are (m.certified tells).is.1.2);
      };
    };
    no_fewer_faults = omega arith;
  }
    where
      text_is : text ≡ cert_text (shape_of m.design Either).bits c
      text_is = is ∙ ap (λ (s : CertShape). cert_text s.bits c) m.shaped

      bits_are : (shape_of m.design Either).bits ≡ shape.bits
      bits_are = ap (λ (s : CertShape). s.bits) (sym m.shaped)

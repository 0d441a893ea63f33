-- Why files are not loaded.
use Rattle.std.proofs.Common.{◌≡◌, ℕ, ◌+◌, ◌≤◌, Option, None, Some, List, refl, sym, ap, subst, ◌∙◌, arith}
use Rattle.std.specs.Prelude.{IsTrue, Contains}
use Rattle.tm_syntax.specs.Limits.{file_limit, specification_limit}
use Rattle.tm_base.specs.Files.{IsLonger}
use Rattle.tm_base.specs.Count.{Rose, RoseBy}
use Rattle.tm_base.specs.declared.files.Files.{Ghosts as FilesGhosts}
use Rattle.tm_syntax.specs.Faults.{too_long}
use Rattle.tm_report.specs.declared.ending.Ending.{Ending}
use Rattle.tm_report.specs.declared.ending.Failure.TheVariants.{ReadFault, WriteFault, Memory}
use Rattle.tm_report.proofs.Counts.{rose_later}
use Rattle.tm_commands.specs.declared.stop.Stop.{Stop}
use Rattle.tm_commands.specs.declared.stop.Stop.TheVariants.{Ends, Fails}
use Rattle.tm_commands.specs.World.{FilesData, files_data, OnlyCounts, OnlyReads}
use Rattle.tm_commands.specs.Inputs.{TellsFault}
use Rattle.tm_commands.specs.Headline.{long_fault, IsLongShown}
use Rattle.tm_commands.specs.Inner.Stopping.{StopsBy, IsLoadFailure, IsReadFailure, IsMemory, IsRefusal}

-- a file that is refused by this end stops a command
pub refused_by : {C N : Ending → Type 0} {old new : FilesData} (name : List ℕ) (ending : Ending)
    (stop : Stop) → IsRefusal C N old new ending → StopsBy (λ e. e ≡ ending) IsMemory stop →
    StopsBy (IsRefusal C N old new) (IsReadFailure name old new) stop
refused_by {C} {N} {old} {new} name ending (Ends e) refusal is =
    subst (λ (x : Ending). IsRefusal C N old new x) (sym is) refusal
refused_by name ending (Fails Memory) refusal is = tt
refused_by name ending (Fails (ReadFault other)) refusal is = elim is [ ]
refused_by name ending (Fails (WriteFault other)) refusal is = elim is [ ]

-- a specification that is longer than its limit has that fault
pub long_spec : (contents : List ℕ → Option (List ℕ)) (spec : List ℕ) → IsLonger (contents spec) specification_limit →
    TellsFault contents spec long_fault
long_spec contents spec long = of_told (contents spec) refl long
  where
    of_told : (told : Option (List ℕ)) → contents spec ≡ told → IsLonger told specification_limit →
        TellsFault contents spec long_fault
    of_told None is long = elim long [ ]
    of_told (Some text) is long = record { text = text; told = is; fault = too_long long }

-- a count that rose later by so much rose before by so much
rose_by_later : (last : Option ℕ) (k a b c : ℕ) → a ≤ b → RoseBy last k b c → RoseBy last k a c
rose_by_later None k a b c le rose = omega arith
rose_by_later (Some l) k a b c le rose = omega arith

-- no read at all leaves everything
pub reads_none : (data_of : FilesData) → OnlyReads data_of data_of
reads_none f = record {
  no_fewer_faults = λ name. omega arith;
  no_fewer_bytes = omega arith;
  same_writes = refl;
  same_contents = refl;
}

-- reads after reads
pub reads_on : {old mid new : FilesData} → OnlyReads old mid → OnlyReads mid new → OnlyReads old new
reads_on first second = record {
  no_fewer_faults = λ name. omega (arith, first.no_fewer_faults name, second.no_fewer_faults name);
  no_fewer_bytes = omega (arith, first.no_fewer_bytes, second.no_fewer_bytes);
  same_writes = second.same_writes ∙ first.same_writes;
  same_contents = second.same_contents ∙ first.same_contents;
}

-- and counts nothing
pub counts_none : (IsOne : List ℕ → Type 0) (data_of : FilesData) → OnlyCounts IsOne data_of data_of
counts_none IsOne f tells name other = refl

module _ {A : Type 0} (F : FilesGhosts A) (x y z : A) where
  -- a file that is due was read behind others that were
  pub counts_later : (IsDue : List ℕ → Type 0) (one : List ℕ) → OnlyCounts IsDue (files_data F x) (files_data F y) →
      (IsTrue F.tells → IsDue one) → OnlyCounts (λ n. n ≡ one) (files_data F y) (files_data F z) →
      OnlyCounts IsDue (files_data F x) (files_data F z)
  counts_later IsDue one before due after tells name other =
      after tells name (λ is. other (subst IsDue (sym is) (due tells))) ∙ before tells name other

  -- nothing was read behind
  pub counts_still : (IsDue : List ℕ → Type 0) → OnlyCounts IsDue (files_data F x) (files_data F y) →
      F.read_faults z ≡ F.read_faults y → OnlyCounts IsDue (files_data F x) (files_data F z)
  counts_still IsDue before same tells name other = ap (λ (f : List ℕ → ℕ). f name) same ∙ before tells name other

  long_later : (ending : Ending) → OnlyReads (files_data F x) (files_data F y) →
      IsLongShown (files_data F y) (files_data F z) ending → IsLongShown (files_data F x) (files_data F z) ending
  long_later ending reads shown = record {
    specification = λ is untold. rose_by_later F.last_count (specification_limit + 1) (F.bytes_taken x)
        (F.bytes_taken y) (F.bytes_taken z) reads.no_fewer_bytes (shown.specification is untold);
    file = λ name is untold. rose_by_later F.last_count (file_limit + 1) (F.bytes_taken x) (F.bytes_taken y)
        (F.bytes_taken z) reads.no_fewer_bytes (shown.file name is untold);
  }

  -- what stops a step behind others, whose file is due, stops the command
  pub stops_later : {C D N M : Ending → Type 0} (names : List (List ℕ)) (IsDue : List ℕ → Type 0) (one : List ℕ)
      (stop : Stop) → Contains names one → (IsTrue F.tells → IsDue one) →
      OnlyReads (files_data F x) (files_data F y) →
      ((ending : Ending) → IsTrue F.tells → C ending → D ending) → ((ending : Ending) → N ending → M ending) →
      StopsBy (IsRefusal C N (files_data F y) (files_data F z))
      (IsReadFailure one (files_data F y) (files_data F z)) stop →
      StopsBy (IsRefusal D M (files_data F x) (files_data F z))
      (IsLoadFailure names IsDue (files_data F x) (files_data F z)) stop
  stops_later names IsDue one (Ends ending) among due reads leads named refusal = record {
    cause = λ told. leads ending told (refusal.cause told);
    named = named ending refusal.named;
    long = long_later ending reads refusal.long;
  }
  stops_later names IsDue one (Fails Memory) among due reads leads named failure = tt
  stops_later names IsDue one (Fails (ReadFault name)) among due reads leads named failure = (
    subst (λ (n : List ℕ). Contains names n) (sym failure.0) among,
    subst (λ (n : List ℕ). Rose F.last_count (F.read_faults x n) (F.read_faults z n)) (sym failure.0)
        (rose_later F.last_count (F.read_faults x one) (F.read_faults y one) (F.read_faults z one)
        (reads.no_fewer_faults one) failure.1),
    λ told. subst IsDue (sym failure.0) (due told),
  )
  stops_later names IsDue one (Fails (WriteFault name)) among due reads leads named failure = elim failure [ ]

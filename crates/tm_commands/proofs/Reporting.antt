-- What the program promises, from what was promised of the command and of putting the lines that tell its outcome.
use Rattle.std.proofs.Common.{◌≡◌, ℕ, ◌≤◌, Option, Result, Ok, Err, List, [], ◌∷◌, ◌++◌, take, refl, sym, ap, subst}
use Rattle.std.proofs.Common.{◌∙◌, append_assoc, arith}
use Rattle.std.specs.Prelude.{IsTrue, IfOk, IfErr}
use Rattle.std.proofs.lemmas.List.{append-nil, take_all}
use Rattle.tm_base.specs.Count.{Rose}
use Rattle.tm_base.specs.Sink.{AppendsPrefix}
use Rattle.tm_base.specs.declared.sink.Sink.{Ghosts as SinkGhosts}
use Rattle.tm_report.specs.declared.ending.Ending.{Ending}
use Rattle.tm_report.specs.declared.ending.Failure.{Failure}
use Rattle.tm_report.specs.declared.ending.Failure.TheVariants.{ReadFault, WriteFault, Memory}
use Rattle.tm_commands.specs.Words.{Command}
use Rattle.tm_commands.specs.World.{FilesData}
use Rattle.tm_report.specs.Output.{SinkData, sink_data}
use Rattle.tm_commands.specs.Commands.{read_names, IsCommandPart, MayEnd}
use Rattle.tm_report.specs.Report.{ending_text, failure_text, outcome_text}
use Rattle.tm_commands.specs.Headline.{AreTold, HasCause, IsComplete, IsShown, IsLongShown, LeavesUnreported}
use Rattle.tm_commands.specs.Headline.{came_to_end, failed_to_read, failed_to_write, Leaves, whole_report}
use Rattle.tm_commands.specs.Headline.{fault_report, part_report, IsCut, Takes, Reports, EndsWithLines, KeepsFiles}
use Rattle.tm_report.specs.Putting.{IsSinkFailure}
use Rattle.tm_commands.specs.Inner.Obeying.{PutBefore, Obeys}
use Rattle.tm_report.proofs.Counts.{rose_later}
use Rattle.tm_commands.proofs.Running.{are_told}
use Rattle.tm_play.proofs.Putting.{cut_more}

-- all that is promised of an outcome
pub record Keeps (command : Option Command) (old new : FilesData) (out after : SinkData)
    (outcome : Result Ending Failure) : Type 0 where
  pub cause : HasCause old command outcome
  pub complete : IsComplete old command outcome
  pub possible : IfOk outcome (MayEnd command)
  pub long : IfOk outcome (IsLongShown old new)
  pub fault : IfErr outcome (IsShown command old new out after)
  pub no_fewer_faults : out.faults ≤ after.faults
  pub report : Reports command old new out after outcome
  pub last_line : EndsWithLines out after outcome
  pub files : KeepsFiles command old new outcome

rose_on : (last : Option ℕ) (a b c : ℕ) → b ≤ c → Rose last a b → Rose last a c
rose_on last a b c le rose = omega arith

-- nothing of an empty text was put
put_nothing : (mid now : List ℕ) → AppendsPrefix [] mid now → now ≡ mid
put_nothing mid now cut = cut.1 ∙ ap (λ t. mid ++ t) (take_all cut.0 [] (omega arith)) ∙ append-nil mid

module _ (command : Option Command) (old new : FilesData) {B : Type 0} (O : SinkGhosts B) (x y z : B) where
  shown_on : (failure : Failure) → O.faults y ≤ O.faults z →
      IsShown command old new (sink_data O x) (sink_data O y) failure →
      IsShown command old new (sink_data O x) (sink_data O z) failure
  shown_on (WriteFault []) le shown = rose_on O.last_count (O.faults x) (O.faults y) (O.faults z) le shown
  shown_on (WriteFault (b ∷ bs)) le shown = shown
  shown_on (ReadFault name) le shown = shown
  shown_on Memory le shown = tt

  shown_later : (failure : Failure) → O.faults x ≤ O.faults y → IsSinkFailure (sink_data O y) (sink_data O z) failure →
      IsShown command old new (sink_data O x) (sink_data O z) failure
  shown_later (WriteFault []) le failed = rose_later O.last_count (O.faults x) (O.faults y) (O.faults z) le failed.1
  shown_later (WriteFault (b ∷ bs)) le failed = let none : b ∷ bs ≡ [] = failed.0 in cc
  shown_later (ReadFault name) le failed = elim failed [ ]
  shown_later Memory le failed = tt

  lines_behind : (text line : List ℕ) → O.written y ≡ O.written x ++ text → O.written z ≡ O.written y ++ line →
      O.written z ≡ O.written x ++ (text ++ line)
  lines_behind text line lines all = all ∙ ap (λ m. m ++ line) lines ∙ append_assoc (O.written x) text line

  part_stays : (text : List ℕ) → IsCommandPart old.contents command text →
      AppendsPrefix text (O.written x) (O.written y) → O.written z ≡ O.written y →
      IsCut command old new (O.written x) (O.written z)
  part_stays text so_put cut same =
      (text, part_report so_put, subst (λ n. AppendsPrefix text (O.written x) n) (sym same) cut)

  takes_failure : (failure : Failure) →
      IsShown command old new (sink_data O x) (sink_data O y) failure →
      PutBefore (IsCommandPart old.contents command) (O.written x) (O.written y) failure →
      O.written z ≡ O.written y ++ failure_text failure →
      Takes command old new (O.written x) (O.written z) (Err failure)
  takes_failure (ReadFault name) shown put all = all ∙ ap (λ m. m ++ failure_text (ReadFault name)) put
  takes_failure (WriteFault []) shown put all =
      part_stays put.0 put.1 put.2 (all ∙ append-nil (O.written y))
  takes_failure (WriteFault (b ∷ bs)) shown put all = all ∙ ap (λ m. m ++ failure_text (WriteFault (b ∷ bs))) put
  takes_failure Memory shown put all = part_stays put.0 put.1 put.2 (all ∙ append-nil (O.written y))

  -- the lines that tell the outcome were put
  pub keeps_whole : (outcome : Result Ending Failure) →
      Obeys command old new (sink_data O x) (sink_data O y) outcome →
      (IsTrue O.tells → O.written z ≡ O.written y ++ outcome_text outcome) → O.faults y ≤ O.faults z →
      Keeps command old new (sink_data O x) (sink_data O z) outcome
  keeps_whole (Ok ending) obeys lines le = record {
    cause = λ told. ((obeys.ends told).0, (obeys.ends told).1);
    complete = obeys.complete;
    possible = obeys.may_end;
    long = obeys.long;
    fault = tt;
    no_fewer_faults = omega (arith, obeys.no_fewer_faults, le);
    report = λ told sink. (
      (obeys.ends told).0,
      (obeys.ends told).1,
      lines_behind (obeys.ends told).0 (ending_text ending) ((obeys.ends told).2 sink) (lines sink),
    );
    last_line = λ sink. (
      (obeys.grows sink).0,
      lines_behind (obeys.grows sink).0 (ending_text ending) (obeys.grows sink).1 (lines sink),
    );
    files = obeys.files;
  }
  keeps_whole (Err failure) obeys lines le = record {
    cause = λ told. tt;
    complete = λ told. tt;
    possible = tt;
    long = tt;
    fault = shown_on failure le obeys.shown;
    no_fewer_faults = omega (arith, obeys.no_fewer_faults, le);
    report = λ told sink. takes_failure failure obeys.shown (obeys.cut told sink) (lines sink);
    last_line = λ sink. (
      (obeys.grows sink).0,
      lines_behind (obeys.grows sink).0 (failure_text failure) (obeys.grows sink).1 (lines sink),
    );
    files = obeys.files;
  }

  cut_failure : (failure : Failure) →
      IsShown command old new (sink_data O x) (sink_data O y) failure →
      (IsTrue old.tells → Leaves command old new (Err failure)) →
      PutBefore (IsCommandPart old.contents command) (O.written x) (O.written y) failure →
      AppendsPrefix (failure_text failure) (O.written y) (O.written z) →
      IsCut command old new (O.written x) (O.written z)
  cut_failure (ReadFault name) shown left put cut = (
    failure_text (ReadFault name),
    fault_report (ReadFault name) shown left,
    subst (λ m. AppendsPrefix (failure_text (ReadFault name)) m (O.written z)) put cut,
  )
  cut_failure (WriteFault []) shown left put cut =
      part_stays put.0 put.1 put.2 (put_nothing (O.written y) (O.written z) cut)
  cut_failure (WriteFault (b ∷ bs)) shown left put cut = (
    failure_text (WriteFault (b ∷ bs)),
    fault_report (WriteFault (b ∷ bs)) shown left,
    subst (λ m. AppendsPrefix (failure_text (WriteFault (b ∷ bs))) m (O.written z)) put cut,
  )
  cut_failure Memory shown left put cut = part_stays put.0 put.1 put.2 (put_nothing (O.written y) (O.written z) cut)

  cut_outcome : (outcome : Result Ending Failure) →
      Obeys command old new (sink_data O x) (sink_data O y) outcome → AreTold old (read_names command) →
      IsTrue O.tells → AppendsPrefix (outcome_text outcome) (O.written y) (O.written z) →
      IsCut command old new (O.written x) (O.written z)
  cut_outcome (Ok ending) obeys told sink cut = (
    (obeys.ends told).0 ++ ending_text ending,
    whole_report (obeys.ends told).0 ending (obeys.ends told).1 obeys.files.left,
    cut_more (O.written x) (O.written y) (O.written z) (obeys.ends told).0 (ending_text ending)
        ((obeys.ends told).2 sink) cut,
  )
  cut_outcome (Err failure) obeys told sink cut =
      cut_failure failure obeys.shown obeys.files.left (obeys.cut told sink) cut

  takes_cut : (failure : Failure) → IsSinkFailure (sink_data O y) (sink_data O z) failure →
      IsCut command old new (O.written x) (O.written z) →
      Takes command old new (O.written x) (O.written z) (Err failure)
  takes_cut (WriteFault []) failed cut = cut
  takes_cut (WriteFault (b ∷ bs)) failed cut = let none : b ∷ bs ≡ [] = failed.0 in cc
  takes_cut Memory failed cut = cut
  takes_cut (ReadFault name) failed cut = elim failed [ ]

  no_line_behind : (failure : Failure) (text : List ℕ) → IsSinkFailure (sink_data O y) (sink_data O z) failure →
      O.written z ≡ O.written x ++ text → O.written z ≡ O.written x ++ (text ++ failure_text failure)
  no_line_behind Memory text failed all = all ∙ ap (λ t. O.written x ++ t) (sym (append-nil text))
  no_line_behind (WriteFault []) text failed all = all ∙ ap (λ t. O.written x ++ t) (sym (append-nil text))
  no_line_behind (WriteFault (b ∷ bs)) text failed all = let none : b ∷ bs ≡ [] = failed.0 in cc
  no_line_behind (ReadFault name) text failed all = elim failed [ ]

  -- what an outcome with a line leaves where the output did not take it
  unreported : (outcome : Result Ending Failure) → Obeys command old new (sink_data O x) (sink_data O y) outcome →
      (outcome ≡ Err Memory → ⊥) → IsTrue old.tells → LeavesUnreported command old new
  unreported (Ok ending) obeys some tells =
      let ends = obeys.ends (are_told old (read_names command) tells) in
      came_to_end ends.0 ending ends.1 (obeys.files.left tells)
  unreported (Err (ReadFault name)) obeys some tells = failed_to_read name obeys.shown (obeys.files.left tells)
  unreported (Err (WriteFault [])) obeys some tells = obeys.files.left tells
  unreported (Err (WriteFault (b ∷ bs))) obeys some tells =
      failed_to_write (b ∷ bs) obeys.shown (obeys.files.left tells)
  unreported (Err Memory) obeys some tells = absurd (some refl)

  put_leaves : (outcome : Result Ending Failure) (failure : Failure) →
      Obeys command old new (sink_data O x) (sink_data O y) outcome → (outcome ≡ Err Memory → ⊥) →
      IsSinkFailure (sink_data O y) (sink_data O z) failure → IsTrue old.tells → Leaves command old new (Err failure)
  put_leaves outcome Memory obeys some failed tells = tt
  put_leaves outcome (WriteFault []) obeys some failed tells = unreported outcome obeys some tells
  put_leaves outcome (WriteFault (b ∷ bs)) obeys some failed tells = let none : b ∷ bs ≡ [] = failed.0 in cc
  put_leaves outcome (ReadFault name) obeys some failed tells = elim failed [ ]

  -- some first part of them was put, which are not those of want of memory
  pub keeps_cut : (outcome : Result Ending Failure) (failure : Failure) →
      Obeys command old new (sink_data O x) (sink_data O y) outcome →
      (IsTrue O.tells → AppendsPrefix (outcome_text outcome) (O.written y) (O.written z)) →
      IsSinkFailure (sink_data O y) (sink_data O z) failure → (outcome ≡ Err Memory → ⊥) →
      O.faults y ≤ O.faults z → Keeps command old new (sink_data O x) (sink_data O z) (Err failure)
  keeps_cut outcome failure obeys cut failed some le = record {
    cause = λ told. tt;
    complete = λ told. tt;
    possible = tt;
    long = tt;
    fault = shown_later failure obeys.no_fewer_faults failed;
    no_fewer_faults = omega (arith, obeys.no_fewer_faults, le);
    report = λ told sink. takes_cut failure failed (cut_outcome outcome obeys told sink (cut sink));
    last_line = λ sink. (
      (obeys.grows sink).0 ++ take (cut sink).0 (outcome_text outcome),
      no_line_behind failure ((obeys.grows sink).0 ++ take (cut sink).0 (outcome_text outcome)) failed
          (lines_behind (obeys.grows sink).0 (take (cut sink).0 (outcome_text outcome)) (obeys.grows sink).1
          (cut sink).1),
    );
    files = record { touched = obeys.files.touched; left = put_leaves outcome failure obeys some failed };
  }

-- How a command is obeyed.
use Rattle.std.proofs.Common.{◌≡◌, inl, ℕ, ◌≤◌, Option, None, Some, Result, Ok, Err, List, [], ◌∷◌, ◌++◌, take, refl}
use Rattle.std.proofs.Common.{sym}
use Rattle.std.proofs.Common.{ap, subst, arith}
use Rattle.std.specs.Prelude.{IsTrue, IfOk, IfErr, IsErrAnd, OnErr}
use Rattle.std.proofs.lemmas.List.{append-nil}
use Rattle.tm_base.specs.Sink.{AppendsPrefix}
use Rattle.tm_syntax.specs.Design.{DesignTree}
use Rattle.tm_cir.specs.Tree.{BlockTree}
use Rattle.tm_report.specs.declared.ending.Ending.{Ending}
use Rattle.tm_report.specs.declared.ending.Ending.TheVariants.{Usage, Play}
use Rattle.tm_report.specs.declared.ending.Failure.{Failure}
use Rattle.tm_commands.specs.declared.stop.Stop.{Stop}
use Rattle.tm_commands.specs.declared.stop.Stop.TheVariants as stops_at
use Rattle.tm_report.specs.declared.ending.Failure.TheVariants.{ReadFault, WriteFault, Memory}
use Rattle.tm_play.specs.Script.{ScriptData}
use Rattle.tm_commands.specs.Words.{Command, run, synthesise, check_driver, check_environment, generate, migrate}
use Rattle.tm_commands.specs.Words.{structure, unstructure}
use Rattle.tm_commands.specs.World.{FilesData, OnlyReads, OnlyTouches}
use Rattle.tm_report.specs.Output.{SinkData}
use Rattle.tm_play.specs.declared.ending.PlayEnd.{PlayEnd}
use Rattle.tm_play.specs.Played.{Ends, IsPart}
use Rattle.tm_commands.specs.Run.{Loads, Refused, refused, ended, some_lines, no_line, RunMayEnd, may_play}
use Rattle.tm_commands.specs.Commands.{read_names, write_names, CommandEnds, IsAnswered, IsCommandPart, MayEnd}
use Rattle.tm_commands.specs.Commands.{CommandLeaves}
use Rattle.tm_commands.specs.Headline.{AreTold, IsLongShown, IsShown, wrote_none, Leaves}
use Rattle.tm_commands.specs.Order.{IsDue, IsDueOfThree}
use Rattle.tm_commands.specs.Inner.Stopping.{StopsBy, stop_outcome, IsLoadFailure, IsRefusal}
use Rattle.tm_report.specs.Putting.{IsSinkFailure}
use Rattle.tm_commands.specs.Inner.Obeying.{PutBefore, Obeys}
use Rattle.tm_play.proofs.Putting.{cut_nothing}
use Rattle.tm_commands.proofs.Completing.{one_run_end}

-- nothing was put
pub grows_none : (before : List ℕ) → (text : List ℕ) × (before ≡ before ++ text)
grows_none before = ([], sym (append-nil before))

-- nothing is a first part of what any command puts
pub nothing_put : (contents : List ℕ → Option (List ℕ)) (command : Option Command) → IsCommandPart contents command []
nothing_put contents None = refl
nothing_put contents (Some (run spec driver choices)) = no_line
nothing_put contents (Some (synthesise spec out budget)) = inl refl
nothing_put contents (Some (check_driver spec driver cert)) = inl refl
nothing_put contents (Some (check_environment spec cert)) = inl refl
nothing_put contents (Some (generate registers out)) = refl
nothing_put contents (Some (migrate spec cert out)) = refl
nothing_put contents (Some (structure spec driver out)) = refl
nothing_put contents (Some (unstructure spec struct out)) = refl

-- what is not done at all leaves everything
pub touches_none : (reads writes : List (List ℕ)) (files : FilesData) → OnlyTouches reads writes files files
touches_none reads writes files = record {
  same_others = λ name other. refl;
  no_fewer_read_faults = λ name. omega arith;
  no_fewer_write_faults = λ name. omega arith;
  no_fewer_bytes = omega arith;
  nothing_read = λ none. (refl, refl);
  nothing_written = λ none. refl;
}

-- reads change no file
touches_read : (reads writes : List (List ℕ)) (old new : FilesData) → (reads ≡ [] → ⊥) → OnlyReads old new →
    OnlyTouches reads writes old new
touches_read reads writes old new some left = record {
  same_others = λ name other. ap (λ (f : List ℕ → Option (List ℕ)). f name) left.same_contents;
  no_fewer_read_faults = left.no_fewer_faults;
  no_fewer_write_faults =
      λ name. let same = ap (λ (f : List ℕ → ℕ). f name) left.same_writes in omega (arith, same);
  no_fewer_bytes = left.no_fewer_bytes;
  nothing_read = λ none. absurd (some none);
  nothing_written = λ none. left.same_writes;
}

-- words without a reading are obeyed by the usage
pub usage_obeys : (command : Option Command) (files : FilesData) (out : SinkData) → None ≡ command →
    Obeys command files files out out (Ok Usage)
usage_obeys command files out is = subst (λ (c : Option Command). Obeys c files files out out (Ok Usage)) is (record {
  ends = λ told. ([], (refl, refl), λ sink. sym (append-nil out.written));
  complete = λ told text other ends. sym ends.1;
  cut = λ told sink. tt;
  grows = λ sink. grows_none out.written;
  may_end = refl;
  shown = tt;
  long = record { specification = λ is. cc; file = λ name is. cc };
  files = record { touched = touches_none [] [] files; left = λ tells. refl };
  no_fewer_faults = omega arith;
})

-- memory ran out before any file was read
pub unread_words_obey : (command : Option Command) (files : FilesData) (out : SinkData)
    (outcome : Result Ending Failure) → IsErrAnd outcome (λ failure. failure ≡ Memory) →
    Obeys command files files out out outcome
unread_words_obey command files out (Ok ending) failed = absurd failed
unread_words_obey command files out (Err failure) failed =
    subst (λ (f : Failure). Obeys command files files out out (Err f)) (sym failed) (record {
      ends = λ told. tt;
      complete = λ told. tt;
      cut = λ told sink. ([], nothing_put files.contents command, cut_nothing out.written);
      grows = λ sink. grows_none out.written;
      may_end = tt;
      shown = tt;
      long = tt;
      files = record { touched = touches_none (read_names command) (write_names command) files; left = λ tells. tt };
      no_fewer_faults = omega arith;
    })

-- some first part of a text was put, so what was put stands behind what stood
pub grows_part : (text before now : List ℕ) → AppendsPrefix text before now →
    (t : List ℕ) × (now ≡ before ++ t)
grows_part text before now part = (take part.0 text, part.1)

-- a failed put shows
pub sink_shown : (command : Option Command) (old new : FilesData) (out after : SinkData) (failure : Failure) →
    IsSinkFailure out after failure → IsShown command old new out after failure
sink_shown command old new out after Memory failed = tt
sink_shown command old new out after (WriteFault []) failed = failed.1
sink_shown command old new out after (WriteFault (b ∷ bs)) failed = let none : b ∷ bs ≡ [] = failed.0 in cc
sink_shown command old new out after (ReadFault name) failed = elim failed [ ]

-- files that tell are told
pub are_told : (files : FilesData) (names : List (List ℕ)) → IsTrue files.tells → AreTold files names
are_told files [] tells = tt
are_told files (name ∷ names) tells = tells

-- a command that reads files and is stopped at one of them, or before it is read
module _ (command : Option Command) (Cause Named : Ending → Type 0) (old new : FilesData)
    (read : AreTold old (read_names command) → IsTrue old.tells) (reads : read_names command ≡ [] → ⊥)
    (ends : (ending : Ending) → Cause ending → CommandEnds old.contents command [] ending)
    (only : (ending : Ending) → Cause ending → (text : List ℕ) (other : Ending) →
    CommandEnds old.contents command text other → IsAnswered command ending other)
    (may : (ending : Ending) → Named ending → MayEnd command ending)
    (leaves : (ending : Ending) → Named ending → new.contents ≡ old.contents →
    CommandLeaves old.contents new.contents command ending) where
  refused_obeys : (out : SinkData) (ending : Ending) → OnlyReads old new → IsRefusal Cause Named old new ending →
      Obeys command old new out out (Ok ending)
  refused_obeys out ending left refusal = record {
    ends = λ told. ([], ends ending (refusal.cause (read told)), λ sink. sym (append-nil out.written));
    complete = λ told. only ending (refusal.cause (read told));
    cut = λ told sink. tt;
    grows = λ sink. grows_none out.written;
    may_end = may ending refusal.named;
    shown = tt;
    long = refusal.long;
    files = record {
      touched = touches_read (read_names command) (write_names command) old new reads left;
      left = λ tells. leaves ending refusal.named left.same_contents;
    };
    no_fewer_faults = omega arith;
  }

  put_none : (before : List ℕ) (failure : Failure) →
      IsLoadFailure (read_names command) (IsDue old.contents command) old new failure →
      PutBefore (IsCommandPart old.contents command) before before failure
  put_none before Memory failed = ([], nothing_put old.contents command, cut_nothing before)
  put_none before (ReadFault name) failed = refl
  put_none before (WriteFault name) failed = elim failed [ ]

  read_shown : (out : SinkData) (failure : Failure) →
      IsLoadFailure (read_names command) (IsDue old.contents command) old new failure →
      IsShown command old new out out failure
  read_shown out Memory failed = tt
  read_shown out (ReadFault name) failed = failed
  read_shown out (WriteFault name) failed = elim failed [ ]

  unread_leaves : (failure : Failure) →
      IsLoadFailure (read_names command) (IsDue old.contents command) old new failure → OnlyReads old new →
      Leaves command old new (Err failure)
  unread_leaves Memory failed left = tt
  unread_leaves (ReadFault name) failed left = left.same_contents
  unread_leaves (WriteFault name) failed left = elim failed [ ]

  -- a file was not read, or memory ran out
  pub unread_obeys : (out : SinkData) (failure : Failure) → OnlyReads old new →
      IsLoadFailure (read_names command) (IsDue old.contents command) old new failure →
      Obeys command old new out out (Err failure)
  unread_obeys out failure left failed = record {
    ends = λ told. tt;
    complete = λ told. tt;
    cut = λ told sink. put_none out.written failure failed;
    grows = λ sink. grows_none out.written;
    may_end = tt;
    shown = read_shown out failure failed;
    long = tt;
    files = record {
      touched = touches_read (read_names command) (write_names command) old new reads left;
      left = λ tells. unread_leaves failure failed left;
    };
    no_fewer_faults = omega arith;
  }

  pub stopped_obeys : (out : SinkData) (stop : Stop) (outcome : Result Ending Failure) → outcome ≡ stop_outcome stop →
      OnlyReads old new → StopsBy (IsRefusal Cause Named old new)
      (IsLoadFailure (read_names command) (IsDue old.contents command) old new) stop →
      Obeys command old new out out outcome
  stopped_obeys out (stops_at.Ends ending) outcome is left refusal =
      subst (λ (o : Result Ending Failure). Obeys command old new out out o) (sym is)
      (refused_obeys out ending left refusal)
  stopped_obeys out (stops_at.Fails failure) outcome is left failed =
      subst (λ (o : Result Ending Failure). Obeys command old new out out o) (sym is)
      (unread_obeys out failure left failed)

-- a command that reads files, writes none, and puts lines on the way
module _ (command : Option Command) (old new : FilesData) (out after : SinkData)
    (read : AreTold old (read_names command) → IsTrue old.tells) (reads : read_names command ≡ [] → ⊥)
    (writes : write_names command ≡ []) (leaves : (ending : Ending) → new.contents ≡ old.contents →
    CommandLeaves old.contents new.contents command ending)
    (left : OnlyReads old new) (faults : out.faults ≤ after.faults) where
  touched : OnlyTouches (read_names command) (write_names command) old new
  touched = touches_read (read_names command) (write_names command) old new reads left

  -- it came to an end
  pub put_obeys : (ending : Ending) (text : List ℕ) →
      (IsTrue old.tells → CommandEnds old.contents command text ending) →
      (IsTrue old.tells → (t : List ℕ) (other : Ending) → CommandEnds old.contents command t other →
      IsAnswered command ending other) →
      MayEnd command ending → IsLongShown old new ending →
      (IsTrue out.tells → after.written ≡ out.written ++ text) → Obeys command old new out after (Ok ending)
  put_obeys ending text ends only may long put = record {
    ends = λ told. (text, ends (read told), put);
    complete = λ told. only (read told);
    cut = λ told sink. tt;
    grows = λ sink. (text, put sink);
    may_end = may;
    shown = tt;
    long = long;
    files = record { touched = touched; left = λ tells. leaves ending left.same_contents };
    no_fewer_faults = faults;
  }

  put_part : (text : List ℕ) (failure : Failure) → IsCommandPart old.contents command text →
      AppendsPrefix text out.written after.written → IsSinkFailure out after failure →
      PutBefore (IsCommandPart old.contents command) out.written after.written failure
  put_part text Memory so_put part failed = (text, so_put, part)
  put_part text (WriteFault []) so_put part failed = (text, so_put, part)
  put_part text (WriteFault (b ∷ bs)) so_put part failed = let none : b ∷ bs ≡ [] = failed.0 in cc
  put_part text (ReadFault name) so_put part failed = elim failed [ ]

  cut_leaves : (failure : Failure) → IsSinkFailure out after failure → Leaves command old new (Err failure)
  cut_leaves Memory failed = tt
  cut_leaves (WriteFault []) failed = wrote_none writes left.same_contents
  cut_leaves (WriteFault (b ∷ bs)) failed = let none : b ∷ bs ≡ [] = failed.0 in cc
  cut_leaves (ReadFault name) failed = elim failed [ ]

  -- it failed
  pub cut_obeys : (failure : Failure) (text : List ℕ) → (IsTrue old.tells → IsCommandPart old.contents command text) →
      (IsTrue out.tells → AppendsPrefix text out.written after.written) → IsSinkFailure out after failure →
      Obeys command old new out after (Err failure)
  cut_obeys failure text so_put cut failed = record {
    ends = λ told. tt;
    complete = λ told. tt;
    cut = λ told sink. put_part text failure (so_put (read told)) (cut sink) failed;
    grows = λ sink. grows_part text out.written after.written (cut sink);
    may_end = tt;
    shown = sink_shown command old new out after failure failed;
    long = tt;
    files = record { touched = touched; left = λ tells. cut_leaves failure failed };
    no_fewer_faults = faults;
  }

module _ (spec driver choices : List ℕ) (old new : FilesData) where
  -- `run` was stopped before its play
  pub stopped_running : (out : SinkData) (stop : Stop) (outcome : Result Ending Failure) →
      outcome ≡ stop_outcome stop → OnlyReads old new →
      StopsBy (IsRefusal (Refused old.contents spec driver choices) (RunMayEnd driver choices) old new)
      (IsLoadFailure (spec ∷ driver ∷ choices ∷ []) (IsDueOfThree old.contents spec driver choices) old new) stop →
      Obeys (Some (run spec driver choices)) old new out out outcome
  stopped_running =
      stopped_obeys (Some (run spec driver choices)) (Refused old.contents spec driver choices)
      (RunMayEnd driver choices) old new (λ tells. tells) (λ is. cc) (λ ending cause. refused cause)
      (λ ending cause text other ends. one_run_end old.contents spec driver choices [] text ending other
      (refused cause) ends)
      (λ ending named. named) (λ ending named same. same)

  -- the choices were played, to an end or to a failure
  pub played_obeys : (out after : SinkData) (d : DesignTree) (bs : List BlockTree) (c : ScriptData)
      (outcome : Result Ending Failure) → OnlyReads old new →
      (IsTrue old.tells → Loads old.contents spec driver choices d bs c) →
      IfOk outcome (λ ending. (end : PlayEnd) × (text : List ℕ) × (ending ≡ Play end) × Ends d bs c text end
      × (IsTrue out.tells → after.written ≡ out.written ++ text)) →
      OnErr outcome ((text : List ℕ) × IsPart d bs c text
      × (IsTrue out.tells → AppendsPrefix text out.written after.written)) →
      IfErr outcome (IsSinkFailure out after) → out.faults ≤ after.faults →
      Obeys (Some (run spec driver choices)) old new out after outcome
  played_obeys out after d bs c (Ok ending) left loads ends cut failed faults =
      subst (λ (e : Ending). Obeys (Some (run spec driver choices)) old new out after (Ok e)) (sym ends.2)
      (put_obeys (Some (run spec driver choices)) old new out after (λ tells. tells) (λ is. cc) refl
      (λ ending same. same) left faults (Play ends.0) ends.1 (λ told. ended (loads told) ends.3)
      (λ told text other also. one_run_end old.contents spec driver choices ends.1 text (Play ends.0) other
      (ended (loads told) ends.3) also)
      may_play (record { specification = λ is. cc; file = λ name is. cc }) ends.4)
  played_obeys out after d bs c (Err failure) left loads ends cut failed faults =
      cut_obeys (Some (run spec driver choices)) old new out after (λ tells. tells) (λ is. cc) refl
      (λ ending same. same) left faults failure cut.0 (λ told. some_lines (loads told) cut.1) cut.2 failed

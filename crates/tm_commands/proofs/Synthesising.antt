-- How `synth` is obeyed.
use Rattle.std.proofs.Common.{◌≡◌, ◌⊎◌, inl, inr, ℕ, ◌<◌, ◌^◌, map, Option, Some, Result, Ok, Err, List, [], ◌∷◌}
use Rattle.std.proofs.Common.{◌++◌, length, refl}
use Rattle.std.proofs.Common.{sym, ap, subst, ◌∙◌, arith}
use Rattle.std.specs.Prelude.{Contains, IsTrue, OnOk, codes}
use Rattle.std.proofs.lemmas.List.{append-nil, length-append, length-map}
use Rattle.tm_base.specs.Count.{Rose}
use Rattle.tm_base.specs.declared.files.Files.{Ghosts as FilesGhosts}
use Rattle.tm_base.specs.declared.sink.Sink.{Ghosts as SinkGhosts}
use Rattle.tm_base.specs.Sink.{AppendsPrefix}
use Rattle.tm_cir.specs.Answer.{Answers}
use Rattle.tm_cir.specs.Tree.{BlockTree}
use Rattle.tm_play.proofs.Putting.{cut_nothing}
use Rattle.tm_report.specs.Output.{SinkData, sink_data}
use Rattle.tm_report.specs.Putting.{HasPut, IsSinkFailure}
use Rattle.tm_report.specs.declared.ending.Ending.{Ending}
use Rattle.tm_report.specs.declared.ending.Ending.TheVariants.{Faulty}
use Rattle.tm_report.specs.declared.ending.Failure.{Failure}
use Rattle.tm_report.specs.declared.ending.Failure.TheVariants.{ReadFault, WriteFault, Memory}
use Rattle.tm_report.proofs.Counts.{rose_later}
use Rattle.tm_sem.specs.Loss.{Lost}
use Rattle.tm_sem.specs.Strategy.{Good}
use Rattle.tm_sem.proofs.Excluding.{good_is_not_lost}
use Rattle.tm_refine.specs.declared.trace.Trace.{Trace}
use Rattle.tm_synth.specs.Found.{IsDriverFound}
use Rattle.tm_syntax.specs.Design.{DesignTree}
use Rattle.tm_syntax.specs.Faults.{IsSound}
use Rattle.tm_syntax.specs.declared.fault.Faulty.{Faulty as Fault}
use Rattle.tm_syntax.proofs.Limits as limits
use Rattle.tm_verdict.specs.Sets.{ranked_set}
use Rattle.tm_commands.specs.declared.stop.Stop.{Stop}
use Rattle.tm_commands.specs.Commands.{IsCommandPart}
use Rattle.tm_commands.specs.Headline.{IsLongShown, IsShown, Leaves, came_to_end}
use Rattle.tm_commands.specs.Inner.Obeying.{Obeys, PutBefore}
use Rattle.tm_commands.specs.Inner.Reading.{IsRead}
use Rattle.tm_commands.specs.Inner.Stopping.{StopsBy, stop_outcome, IsLoadFailure, IsRefusal, IsWriteFailure}
use Rattle.tm_commands.specs.Inner.Synthesising.{BreaksOff, FailsSo, Finishes, HasPutPart, IsDriverUnwritten}
use Rattle.tm_commands.specs.Inner.Synthesising.{LeavesDriver, Synthesises, at_cert, at_driver, at_loss, finds_driver}
use Rattle.tm_commands.specs.Inner.Synthesising.{finds_none, no_cert, no_driver, spends}
use Rattle.tm_commands.specs.Inputs.{NoSpecification, RefusesSpecification, TellsFault, TellsSpecification, faulty_spec}
use Rattle.tm_commands.specs.Inputs.{refuses_specification}
use Rattle.tm_commands.specs.Synthesise.{AreAlike, SynthesiseBreaksOff, SynthesiseEnds, SynthesiseLeaves}
use Rattle.tm_commands.specs.Synthesise.{SynthesiseMayEnd, cert_name, cert_unwritten, driver_name, driver_unwritten}
use Rattle.tm_commands.specs.Synthesise.{has_driver, has_none, has_spent, loss_unwritten, may_have_driver}
use Rattle.tm_commands.specs.Synthesise.{may_have_none, may_have_spent, may_not_be_specified, not_specified}
use Rattle.tm_commands.specs.Words.{synthesise}
use Rattle.tm_commands.specs.World.{FilesData, HasFailedWrite, OnlyReads, OnlyTouches, OnlyWrites, files_data}
use Rattle.tm_commands.proofs.Running.{grows_part, stopped_obeys, unread_obeys}
use Rattle.tm_commands.proofs.Specifying.{specified}
use Rattle.tm_commands.proofs.Telling.{one_no_specification, specification_read, told_specification}

-- ---- its end
-- two of its ends are alike
module _ (contents : List ℕ → Option (List ℕ)) (spec : List ℕ) (budget : Option ℕ) where
  -- an end over a design is no fault of its text
  not_faulty : {f : Fault} (d : DesignTree) → TellsSpecification contents spec d → TellsFault contents spec f → ⊥
  not_faulty {f = f} d told p = specification_read contents spec d (Faulty f) told (faulty_spec p)

  -- a design with a good driver is not lost
  not_lost : (d e : DesignTree) (bs : List BlockTree) (ranks : List ℕ) → TellsSpecification contents spec d →
      TellsSpecification contents spec e → Good d (Answers bs) ranks → Lost e → ⊥
  not_lost d e bs ranks told also good lost =
      good_is_not_lost d told.is.sound.numbered (Answers bs) ranks good
      (subst Lost (sym (told_specification contents spec d e told also)) lost)

  pub alike : (text other_text : List ℕ) (one other : Ending) → SynthesiseEnds contents spec budget text one →
      SynthesiseEnds contents spec budget other_text other → AreAlike one other
  alike _ _ _ _ (not_specified (faulty_spec {f = f} p)) (not_specified (faulty_spec {f = g} q)) =
      one_no_specification contents spec (Faulty f) (Faulty g) (faulty_spec p) (faulty_spec q)
  alike _ _ _ _ (not_specified (faulty_spec p)) (has_driver {d = d} ranks trace nodes told good honest) =
      absurd (not_faulty d told p)
  alike _ _ _ _ (not_specified (faulty_spec p)) (has_none {d = d} levels many chain trace told lost honest) =
      absurd (not_faulty d told p)
  alike _ _ _ _ (not_specified (faulty_spec p)) (has_spent {d = d} n trace is told spent) =
      absurd (not_faulty d told p)
  alike _ _ _ _ (has_driver {d = d} ranks trace nodes told good honest) (not_specified (faulty_spec p)) =
      absurd (not_faulty d told p)
  alike _ _ _ _ (has_driver ranks trace nodes told good honest) (has_driver others track many also fine fair) = tt
  alike _ _ _ _ (has_driver {d = d} {bs = bs} ranks trace nodes told good honest)
      (has_none {d = e} levels many chain track also lost fair) =
      absurd (not_lost d e bs ranks told also good lost.lost)
  alike _ _ _ _ (has_driver ranks trace nodes told good honest) (has_spent n track is also spent) = tt
  alike _ _ _ _ (has_none {d = d} levels many chain trace told lost honest) (not_specified (faulty_spec p)) =
      absurd (not_faulty d told p)
  alike _ _ _ _ (has_none {d = d} levels many chain trace told lost honest)
      (has_driver {d = e} {bs = bs} ranks track nodes also good fair) =
      absurd (not_lost e d bs ranks also told good lost.lost)
  alike _ _ _ _ (has_none levels many chain trace told lost honest)
      (has_none others ones most track also loss fair) = tt
  alike _ _ _ _ (has_none levels many chain trace told lost honest) (has_spent n track is also spent) = tt
  alike _ _ _ _ (has_spent {d = d} n trace is told spent) (not_specified (faulty_spec p)) =
      absurd (not_faulty d told p)
  alike _ _ _ _ (has_spent n trace is told spent) (has_driver ranks track nodes also good honest) = tt
  alike _ _ _ _ (has_spent n trace is told spent) (has_none levels many chain track also lost honest) = tt
  alike _ _ _ _ (has_spent n trace is told spent) (has_spent m track was also done) =
      let same : Some n ≡ Some m = sym is ∙ was in cc

-- ---- before it writes
module _ (spec out : List ℕ) (budget : Option ℕ) (old new : FilesData) where
  refused_leaves : (ending : Ending) → RefusesSpecification ending → new.contents ≡ old.contents →
      SynthesiseLeaves old.contents new.contents spec out ending
  refused_leaves ending refuses_specification same = same

  -- `synth` was stopped at SPEC
  pub stopped_synthesising : (sink : SinkData) (stop : Stop) (outcome : Result Ending Failure) →
      outcome ≡ stop_outcome stop → OnlyReads old new →
      StopsBy (IsRefusal (NoSpecification old.contents spec) RefusesSpecification old new)
      (IsLoadFailure (spec ∷ []) (λ name. name ≡ spec) old new) stop →
      Obeys (Some (synthesise spec out budget)) old new sink sink outcome
  stopped_synthesising =
      stopped_obeys (Some (synthesise spec out budget)) (NoSpecification old.contents spec) RefusesSpecification old new
      (λ tells. tells) (λ is. cc) (λ ending cause. not_specified cause)
      (λ ending cause text other ends. alike old.contents spec budget [] text ending other (not_specified cause) ends)
      (λ ending named. may_not_be_specified named) refused_leaves

  -- memory ran out before `synth` wrote
  pub wanting_synthesising : (sink : SinkData) → OnlyReads old new →
      Obeys (Some (synthesise spec out budget)) old new sink sink (Err Memory)
  wanting_synthesising sink left =
      unread_obeys (Some (synthesise spec out budget)) (NoSpecification old.contents spec) RefusesSpecification old new
      (λ tells. tells) (λ is. cc) (λ ending cause. not_specified cause)
      (λ ending cause text other ends. alike old.contents spec budget [] text ending other (not_specified cause) ends)
      (λ ending named. may_not_be_specified named) refused_leaves sink Memory left tt

-- ---- the names of its files
pub names_differ : (out : List ℕ) → driver_name out ≡ cert_name out → ⊥
names_differ out is =
    let two : length (codes ".c") ≡ 2 = refl in
    let five : length (codes ".cert") ≡ 5 = refl in
    absurd (omega (arith, ap length is, length-append out (codes ".c"), length-append out (codes ".cert"), two, five))

some_driver_name : (out : List ℕ) → driver_name out ≡ [] → ⊥
some_driver_name out is =
    let two : length (codes ".c") ≡ 2 = refl in
    absurd (omega (arith, ap length is, length-append out (codes ".c"), two))

some_cert_name : (out : List ℕ) → cert_name out ≡ [] → ⊥
some_cert_name out is =
    let five : length (codes ".cert") ≡ 5 = refl in
    absurd (omega (arith, ap length is, length-append out (codes ".cert"), five))

-- ---- writes
-- no write at all leaves everything
pub writes_none : (name : List ℕ) (files : FilesData) → OnlyWrites name files files
writes_none name files = record {
  no_fewer_faults = λ n. omega arith;
  same_reads = refl;
  same_bytes = refl;
  same_others = λ n other. refl;
}

-- one of two files was written
touches_one : (a b name : List ℕ) (old new : FilesData) → (name ≡ a) ⊎ (name ≡ b) → OnlyWrites name old new →
    OnlyTouches [] (a ∷ b ∷ []) old new
touches_one a b name old new one wrote = record {
  same_others = λ n other. wrote.same_others n (λ is. none n other is one);
  no_fewer_read_faults = λ n. let same = ap (λ (f : List ℕ → ℕ). f n) wrote.same_reads in omega (arith, same);
  no_fewer_write_faults = wrote.no_fewer_faults;
  no_fewer_bytes = omega (arith, wrote.same_bytes);
  nothing_read = λ is. (wrote.same_reads, wrote.same_bytes);
  nothing_written = λ is. absurd (cc);
}
  where
    none : (n : List ℕ) → ¬ Contains (a ∷ b ∷ []) n → n ≡ name → (name ≡ a) ⊎ (name ≡ b) → ⊥
    none n other is (inl first) = other (0, omega arith, sym (is ∙ first))
    none n other is (inr second) = other (1, omega arith, sym (is ∙ second))

-- OUT.c alone was written, or failed to be
pub touches_driver : (out : List ℕ) (old new : FilesData) → OnlyWrites (driver_name out) old new →
    OnlyTouches [] (driver_name out ∷ cert_name out ∷ []) old new
touches_driver out old new wrote =
    touches_one (driver_name out) (cert_name out) (driver_name out) old new (inl refl) wrote

-- OUT.cert alone
pub touches_cert : (out : List ℕ) (old new : FilesData) → OnlyWrites (cert_name out) old new →
    OnlyTouches [] (driver_name out ∷ cert_name out ∷ []) old new
touches_cert out old new wrote =
    touches_one (driver_name out) (cert_name out) (cert_name out) old new (inr refl) wrote

-- one of them behind the other
pub touches_then : {writes : List (List ℕ)} {old mid new : FilesData} → OnlyTouches [] writes old mid →
    OnlyTouches [] writes mid new → OnlyTouches [] writes old new
touches_then first second = record {
  same_others = λ n other. second.same_others n other ∙ first.same_others n other;
  no_fewer_read_faults = λ n. omega (arith, first.no_fewer_read_faults n, second.no_fewer_read_faults n);
  no_fewer_write_faults = λ n. omega (arith, first.no_fewer_write_faults n, second.no_fewer_write_faults n);
  no_fewer_bytes = omega (arith, first.no_fewer_bytes, second.no_fewer_bytes);
  nothing_read = λ is. (
    (second.nothing_read is).0 ∙ (first.nothing_read is).0,
    (second.nothing_read is).1 ∙ (first.nothing_read is).1,
  );
  nothing_written = λ is. second.nothing_written is ∙ first.nothing_written is;
}

-- behind what was read
touches_later : (reads writes : List (List ℕ)) (old mid new : FilesData) → (reads ≡ [] → ⊥) →
    (writes ≡ [] → ⊥) → OnlyReads old mid → OnlyTouches [] writes mid new → OnlyTouches reads writes old new
touches_later reads writes old mid new some_read some_written read wrote = record {
  same_others = λ n other. wrote.same_others n other
      ∙ ap (λ (f : List ℕ → Option (List ℕ)). f n) read.same_contents;
  no_fewer_read_faults = λ n. omega (arith, read.no_fewer_faults n, wrote.no_fewer_read_faults n);
  no_fewer_write_faults = λ n. let same = ap (λ (f : List ℕ → ℕ). f n) read.same_writes in
      omega (arith, same, wrote.no_fewer_write_faults n);
  no_fewer_bytes = omega (arith, read.no_fewer_bytes, wrote.no_fewer_bytes);
  nothing_read = λ is. absurd (some_read is);
  nothing_written = λ is. absurd (some_written is);
}

-- what holds in any case holds after success
pub on_ok : {T E : Type 0} (r : Result T E) {P : Type 0} → P → OnOk r P
on_ok (Ok x) p = p
on_ok (Err e) p = tt

-- there are few goals
pub few_found_ranks : (d : DesignTree) → IsSound d → (driver cert ranks : List ℕ) (trace : Trace) (nodes : ℕ) →
    IsDriverFound d driver cert ranks nodes trace → (lent : List ℕ) → lent ≡ ranks → length lent < 2 ^ 32
few_found_ranks d sound driver cert ranks trace nodes found lent same =
    omega (
      arith,
      limits.few_goals d sound,
      found.meets.goals,
      length-map found.certificate.goals (map (ranked_set d found.certificate.order found.certificate.nodes)),
      length-map found.certificate.goals (λ row. length row),
      ap length found.ranks_are,
      ap length same,
    )

-- ---- the files of a driver
module _ (out driver : List ℕ) {A : Type 0} (F : FilesGhosts A) (x y z : A) where
  -- OUT.c was not written
  pub no_driver_written : (failure : Failure) →
      OnlyWrites (driver_name out) (files_data F x) (files_data F y) →
      IsWriteFailure (driver_name out) (files_data F x) (files_data F y) failure →
      IsDriverUnwritten out driver (files_data F x) (files_data F y) failure
  no_driver_written Memory wrote failed = tt
  no_driver_written (ReadFault name) wrote failed = elim failed [ ]
  no_driver_written (WriteFault name) wrote failed = (
    no_driver failed.0 (wrote.same_others (cert_name out) (λ is. names_differ out (sym is))),
    subst (λ (n : List ℕ). Rose F.last_count (F.write_faults x n) (F.write_faults y n)) (sym failed.0) failed.1,
  )

  -- OUT.cert was not written behind it
  pub no_cert_written : (failure : Failure) →
      OnlyWrites (driver_name out) (files_data F x) (files_data F y) →
      OnlyWrites (cert_name out) (files_data F y) (files_data F z) →
      (IsTrue F.tells → F.contents y (driver_name out) ≡ Some driver) →
      IsWriteFailure (cert_name out) (files_data F y) (files_data F z) failure →
      IsDriverUnwritten out driver (files_data F x) (files_data F z) failure
  no_cert_written Memory wrote more holds failed = tt
  no_cert_written (ReadFault name) wrote more holds failed = elim failed [ ]
  no_cert_written (WriteFault name) wrote more holds failed = (
    no_cert failed.0 (λ tells. more.same_others (driver_name out) (names_differ out) ∙ holds tells),
    subst (λ (n : List ℕ). Rose F.last_count (F.write_faults x n) (F.write_faults z n)) (sym failed.0)
        (rose_later F.last_count (F.write_faults x (cert_name out)) (F.write_faults y (cert_name out))
        (F.write_faults z (cert_name out)) (wrote.no_fewer_faults (cert_name out)) failed.1),
  )

  -- OUT.c holds what it held
  pub driver_stays : OnlyWrites (cert_name out) (files_data F y) (files_data F z) →
      (IsTrue F.tells → F.contents y (driver_name out) ≡ Some driver) → IsTrue F.tells →
      F.contents z (driver_name out) ≡ Some driver
  driver_stays more holds tells = more.same_others (driver_name out) (names_differ out) ∙ holds tells

-- ---- what was found
module _ (d : DesignTree) (budget : Option ℕ) (out : List ℕ) (old new : FilesData) where
  -- no driver's file was written: nothing was put
  pub unwritten_synthesises : (sink : SinkData) {driver cert : List ℕ} (ranks : List ℕ) (trace : Trace) (nodes : ℕ)
      (failure : Failure) → IsDriverFound d driver cert ranks nodes trace →
      OnlyTouches [] (driver_name out ∷ cert_name out ∷ []) old new →
      IsDriverUnwritten out driver old new failure → Synthesises d budget out old new sink sink (Err failure)
  unwritten_synthesises sink {driver} ranks trace nodes failure found touched failed = record {
    ended = tt;
    failed = fails failure failed;
    touched = touched;
    no_fewer_faults = omega arith;
  }
    where
      none : LeavesDriver out driver old new [] → ⊥
      none (no_driver is same) = some_driver_name out (sym is)
      none (no_cert is holds) = some_cert_name out (sym is)

      breaks : (name : List ℕ) → LeavesDriver out driver old new name → BreaksOff d out old new name
      breaks name (no_driver is same) = at_driver is same
      breaks name (no_cert is holds) = at_cert ranks trace nodes is found holds

      fails : (f : Failure) → IsDriverUnwritten out driver old new f → FailsSo d budget out old new sink sink f
      fails Memory unwritten = inl refl
      fails (ReadFault name) unwritten = elim unwritten [ ]
      fails (WriteFault []) unwritten = absurd (none unwritten.0)
      fails (WriteFault (b ∷ bs)) unwritten = (breaks (b ∷ bs) unwritten.0, unwritten.1, refl)

  -- nor the environment's
  pub loss_unwritten_synthesises : (sink : SinkData) (failure : Failure) → Lost d →
      OnlyWrites (cert_name out) old new → IsWriteFailure (cert_name out) old new failure →
      Synthesises d budget out old new sink sink (Err failure)
  loss_unwritten_synthesises sink failure lost wrote failed = record {
    ended = tt;
    failed = fails failure failed;
    touched = touches_cert out old new wrote;
    no_fewer_faults = omega arith;
  }
    where
      fails : (f : Failure) → IsWriteFailure (cert_name out) old new f → FailsSo d budget out old new sink sink f
      fails Memory unwritten = inl refl
      fails (ReadFault name) unwritten = elim unwritten [ ]
      fails (WriteFault []) unwritten = absurd (some_cert_name out (sym unwritten.0))
      fails (WriteFault (b ∷ bs)) unwritten = (
        at_loss unwritten.0 lost (wrote.same_others (driver_name out) (names_differ out)),
        subst (λ (n : List ℕ). HasFailedWrite old new n) (sym unwritten.0) unwritten.1,
        refl,
      )

  -- the files are as an end leaves them
  module _ (text : List ℕ) (ending : Ending) (ends : Finishes d budget out old new text ending)
      (touched : OnlyTouches [] (driver_name out ∷ cert_name out ∷ []) old new) (sink after : SinkData) where
    -- and its lines were put
    pub put_synthesises : {T : Type 0} (r : Result T Failure) (v : T) → r ≡ Ok v → HasPut text sink after r →
        Synthesises d budget out old new sink after (Ok ending)
    put_synthesises r v is put = record {
      ended = (text, ends, (subst (HasPut text sink after) is put).whole);
      failed = tt;
      touched = touched;
      no_fewer_faults = put.no_fewer_faults;
    }

    -- or not all of them
    pub cut_synthesises : {T : Type 0} (r : Result T Failure) (failure : Failure) → r ≡ Err failure →
        HasPut text sink after r → Synthesises d budget out old new sink after (Err failure)
    cut_synthesises {T} r failure is put =
        let cut = subst (HasPut text sink after) is put in
        record {
          ended = tt;
          failed = fails failure cut.failure (text, ending, ends, cut.cut);
          touched = touched;
          no_fewer_faults = put.no_fewer_faults;
        }
      where
        fails : (f : Failure) → IsSinkFailure sink after f → HasPutPart d budget out old new sink after →
            FailsSo d budget out old new sink after f
        fails Memory failed part = inr part
        fails (ReadFault name) failed part = elim failed [ ]
        fails (WriteFault []) failed part = (failed.1, part)
        fails (WriteFault (b ∷ bs)) failed part = let none : b ∷ bs ≡ [] = failed.0 in cc

-- ---- all of it
module _ (spec out : List ℕ) (budget : Option ℕ) {A : Type 0} (F : FilesGhosts A) (x y z : A) {B : Type 0}
    (O : SinkGhosts B) (a b : B) (d : DesignTree) (left : OnlyReads (files_data F x) (files_data F y))
    (read : IsRead F.tells (F.contents x) spec d) where
  as_it_ends : (text : List ℕ) (ending : Ending) →
      Finishes d budget out (files_data F y) (files_data F z) text ending → IsTrue F.tells →
      SynthesiseEnds (F.contents x) spec budget text ending
  as_it_ends _ _ (finds_driver ranks trace nodes within found driver cert) tells =
      has_driver {bs = found.blocks} ranks trace nodes (specified read tells) found.good found.honest
  as_it_ends _ _ (finds_none levels many chain trace within found cert same) tells =
      has_none levels many chain trace (specified read tells) (record { lost = found.lost; within = found.within })
      found.honest
  as_it_ends _ _ (spends n trace is spent same) tells = has_spent n trace is (specified read tells) spent

  may_end : (text : List ℕ) (ending : Ending) →
      Finishes d budget out (files_data F y) (files_data F z) text ending → SynthesiseMayEnd budget ending
  may_end _ _ (finds_driver ranks trace nodes within found driver cert) = may_have_driver ranks trace nodes within
  may_end _ _ (finds_none levels many chain trace within found cert same) =
      may_have_none levels many chain trace within
  may_end _ _ (spends n trace is spent same) = may_have_spent n trace is

  not_long : (text : List ℕ) (ending : Ending) →
      Finishes d budget out (files_data F y) (files_data F z) text ending →
      IsLongShown (files_data F x) (files_data F z) ending
  not_long _ _ (finds_driver ranks trace nodes within found driver cert) =
      record { specification = λ is. cc; file = λ name is. cc }
  not_long _ _ (finds_none levels many chain trace within found cert same) =
      record { specification = λ is. cc; file = λ name is. cc }
  not_long _ _ (spends n trace is spent same) = record { specification = λ is. cc; file = λ name is. cc }

  as_it_leaves : (text : List ℕ) (ending : Ending) →
      Finishes d budget out (files_data F y) (files_data F z) text ending → IsTrue F.tells →
      SynthesiseLeaves (F.contents x) (F.contents z) spec out ending
  as_it_leaves _ _ (finds_driver {driver = text} {cert = told} ranks trace nodes few found driver cert) tells = record {
    design = d;
    driver = text;
    cert = told;
    specified = specified read tells;
    driver_told = driver tells;
    cert_told = cert tells;
    found = found;
  }
  as_it_leaves _ _ (finds_none {cert = certificate} levels many chain trace within found cert same) tells = record {
    design = d;
    cert = certificate;
    specified = specified read tells;
    cert_told = cert tells;
    found = found;
    no_driver = same ∙ ap (λ (f : List ℕ → Option (List ℕ)). f (driver_name out)) left.same_contents;
  }
  as_it_leaves _ _ (spends n trace is spent same) tells = same ∙ left.same_contents

  broken_off : (name : List ℕ) → BreaksOff d out (files_data F y) (files_data F z) name → IsTrue F.tells →
      SynthesiseBreaksOff (F.contents x) (F.contents z) spec out name
  broken_off name (at_driver is same) tells =
      driver_unwritten is (same ∙ ap (λ (f : List ℕ → Option (List ℕ)). f (cert_name out)) left.same_contents)
  broken_off name (at_cert ranks trace nodes is found holds) tells =
      cert_unwritten ranks trace nodes is (specified read tells) (holds tells) found
  broken_off name (at_loss is lost same) tells =
      loss_unwritten is (specified read tells) lost
      (same ∙ ap (λ (f : List ℕ → Option (List ℕ)). f (driver_name out)) left.same_contents)

  of_two : (name : List ℕ) → BreaksOff d out (files_data F y) (files_data F z) name →
      Contains (driver_name out ∷ cert_name out ∷ []) name
  of_two name (at_driver is same) = (0, omega arith, sym is)
  of_two name (at_cert ranks trace nodes is found holds) = (1, omega arith, sym is)
  of_two name (at_loss is lost same) = (1, omega arith, sym is)

  shown_so : (failure : Failure) →
      FailsSo d budget out (files_data F y) (files_data F z) (sink_data O a) (sink_data O b) failure →
      IsShown (Some (synthesise spec out budget)) (files_data F x) (files_data F z) (sink_data O a) (sink_data O b)
      failure
  shown_so Memory failed = tt
  shown_so (ReadFault name) failed = elim failed [ ]
  shown_so (WriteFault []) failed = failed.0
  shown_so (WriteFault (c ∷ cs)) failed = (
    of_two (c ∷ cs) failed.0,
    subst (λ (f : List ℕ → ℕ). Rose F.last_count (f (c ∷ cs)) (F.write_faults z (c ∷ cs))) left.same_writes failed.1,
    λ tells. (d, specified read tells),
  )

  same_written : sink_data O b ≡ sink_data O a → O.written b ≡ O.written a
  same_written same = ap (λ (s : SinkData). s.written) same

  put_so : (failure : Failure) →
      FailsSo d budget out (files_data F y) (files_data F z) (sink_data O a) (sink_data O b) failure → IsTrue F.tells →
      IsTrue O.tells →
      PutBefore (IsCommandPart (F.contents x) (Some (synthesise spec out budget))) (O.written a) (O.written b) failure
  put_so Memory (inl same) tells sink = (
    [],
    inl refl,
    subst (λ (w : List ℕ). AppendsPrefix [] (O.written a) w) (sym (same_written same)) (cut_nothing (O.written a)),
  )
  put_so Memory (inr part) tells sink =
      (part.0, inr (part.1, as_it_ends part.0 part.1 part.2 tells), part.3 sink)
  put_so (ReadFault name) failed tells sink = elim failed [ ]
  put_so (WriteFault []) failed tells sink = (
    failed.1.0,
    inr (failed.1.1, as_it_ends failed.1.0 failed.1.1 failed.1.2 tells),
    failed.1.3 sink,
  )
  put_so (WriteFault (c ∷ cs)) failed tells sink = same_written failed.2

  grows_so : (failure : Failure) →
      FailsSo d budget out (files_data F y) (files_data F z) (sink_data O a) (sink_data O b) failure → IsTrue O.tells →
      (text : List ℕ) × (O.written b ≡ O.written a ++ text)
  grows_so Memory (inl same) sink = ([], same_written same ∙ sym (append-nil (O.written a)))
  grows_so Memory (inr part) sink = grows_part part.0 (O.written a) (O.written b) (part.3 sink)
  grows_so (ReadFault name) failed sink = elim failed [ ]
  grows_so (WriteFault []) failed sink = grows_part failed.1.0 (O.written a) (O.written b) (failed.1.3 sink)
  grows_so (WriteFault (c ∷ cs)) failed sink = ([], same_written failed.2 ∙ sym (append-nil (O.written a)))

  leaves_so : (failure : Failure) →
      FailsSo d budget out (files_data F y) (files_data F z) (sink_data O a) (sink_data O b) failure → IsTrue F.tells →
      Leaves (Some (synthesise spec out budget)) (files_data F x) (files_data F z) (Err failure)
  leaves_so Memory failed tells = tt
  leaves_so (ReadFault name) failed tells = elim failed [ ]
  leaves_so (WriteFault []) failed tells =
      came_to_end failed.1.0 failed.1.1 (as_it_ends failed.1.0 failed.1.1 failed.1.2 tells)
      (as_it_leaves failed.1.0 failed.1.1 failed.1.2 tells)
  leaves_so (WriteFault (c ∷ cs)) failed tells = broken_off (c ∷ cs) failed.0 tells

  touched_so : OnlyTouches [] (driver_name out ∷ cert_name out ∷ []) (files_data F y) (files_data F z) →
      OnlyTouches (spec ∷ []) (driver_name out ∷ cert_name out ∷ []) (files_data F x) (files_data F z)
  touched_so =
      touches_later (spec ∷ []) (driver_name out ∷ cert_name out ∷ []) (files_data F x) (files_data F y)
      (files_data F z) (λ is. cc) (λ is. cc) left

  -- what was found was written and told, or not all of it
  pub synthesised_obeys : (outcome : Result Ending Failure) →
      Synthesises d budget out (files_data F y) (files_data F z) (sink_data O a) (sink_data O b) outcome →
      Obeys (Some (synthesise spec out budget)) (files_data F x) (files_data F z) (sink_data O a) (sink_data O b)
      outcome
  synthesised_obeys (Ok ending) s =
      let e = s.ended in
      record {
        ends = λ told. (e.0, as_it_ends e.0 ending e.1 told, e.2);
        complete = λ told text other also. alike (F.contents x) spec budget e.0 text ending other
            (as_it_ends e.0 ending e.1 told) also;
        cut = λ told sink. tt;
        grows = λ sink. (e.0, e.2 sink);
        may_end = may_end e.0 ending e.1;
        shown = tt;
        long = not_long e.0 ending e.1;
        files = record { touched = touched_so s.touched; left = as_it_leaves e.0 ending e.1 };
        no_fewer_faults = s.no_fewer_faults;
      }
  synthesised_obeys (Err failure) s = record {
    ends = λ told. tt;
    complete = λ told. tt;
    cut = put_so failure s.failed;
    grows = grows_so failure s.failed;
    may_end = tt;
    shown = shown_so failure s.failed;
    long = tt;
    files = record { touched = touched_so s.touched; left = leaves_so failure s.failed };
    no_fewer_faults = s.no_fewer_faults;
  }

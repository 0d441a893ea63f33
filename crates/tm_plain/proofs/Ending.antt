-- What the ends of work lead to.
use Rattle.std.proofs.Common.{◌≡◌, ℕ, ◌≤◌, Bool, true, false, Result, Ok, List, [], ◌∷◌, length, refl, sym, ap, ◌∙◌, subst, arith}
use Rattle.std.specs.Prelude.{◌↔◌, IfOk, IsTrue, not, slice_index, slice_set}
use Rattle.std.specs.List.{position_or_len}
use Rattle.std.proofs.lemmas.List.{append-nil}
use Rattle.std.proofs.lemmas.List.Sums.{prefix_len-le-length}
use Rattle.std.proofs.lemmas.Result.{IfOk-weaker}
use Rattle.tm_base.specs.declared.place.Place.{Place}
use Rattle.tm_syntax.specs.declared.design.Design.{Design}
use Rattle.tm_syntax.specs.Design.{DesignTree}
use Rattle.tm_syntax.specs.Design.Locations.{end_number, is_location_at, locations, rest}
use Rattle.tm_syntax.specs.Design.View.{design_tree}
use Rattle.tm_syntax.specs.Design.Work.{WorkItem}
use Rattle.tm_sem.specs.declared.state.Outcome.{Outcome}
use Rattle.tm_sem.specs.declared.state.Outcome.TheVariants.{Error, Next, NoOutcome}
use Rattle.tm_sem.specs.Run.{Ending, Run, at_end, blocked, failed, finished, none_left, stopped}
use Rattle.tm_sem.specs.State.{StateData}
use Rattle.tm_sem.specs.Step.{Comes, memory_of, outcome_of}
use Rattle.tm_sem.specs.Value.{Memory, plain_memory}
use Rattle.tm_plain_bodies.specs.declared.course.Course.{Course}
use Rattle.tm_plain_bodies.specs.declared.halt.Halt.TheVariants as halt
use Rattle.tm_plain_bodies.specs.Going.{EndsWithin, GoesOn}
use Rattle.tm_plain_bodies.specs.Tables.{tables_of}
use Rattle.tm_plain_exprs.specs.Kept.{Kept, Keeps}
use Rattle.tm_plain.specs.declared.machine.rests.End.{End}
use Rattle.tm_plain.specs.Ends.{ArrivesAt, EndsSo, HaltsSo, Leads, RestEnds, driver_work, still, work_from}
use Rattle.tm_plain.proofs.Outcomes.{LeavesCount, run_counts}

-- no choice is left, or one is
pub none_left_over : (b : Bool) (cs : List ℕ) → IsTrue b ↔ (cs ≡ []) → b ≡ true → cs ≡ []
none_left_over b cs tells is = tells.0 is

pub one_left_over : (b : Bool) (cs : List ℕ) → IsTrue b ↔ (cs ≡ []) → b ≡ false → (e : Ending) → at_end cs e ≡ blocked
one_left_over b [] tells is e = absurd (let yes = tells.1 refl in cc)
one_left_over b (c ∷ cs) tells is e = refl

module _ (d : DesignTree) (items : List WorkItem) (m : Memory) (cs : List ℕ) where
  -- what is got through to its end
  pub run_through : (n : Memory) (ds : List ℕ) → GoesOn d items m n cs ds → Run d items m cs (at_end ds (finished n))
  run_through n ds goes =
      subst (λ is. Run d is m cs (at_end ds (finished n))) (append-nil items)
      (goes [] (at_end ds (finished n)) (none_left refl))

  pub run_within : (e : Ending) → EndsWithin d items m cs e → Run d items m cs e
  run_within e within = subst (λ is. Run d is m cs e) (append-nil items) (within [])

-- a state that differs in who moved last alone
module _ (d : DesignTree) (s : StateData) (last : ℕ) where
  pub stays : (choices : List ℕ) → choices ≡ [] → (o : Outcome) →
      o ≡ Next (record { values = s.values; places = s.places; last = last }) → Comes d s (still s last) choices o
  stays choices none o is = record {
    end = finished (memory_of s);
    run = subst (λ cs. Run d [] (memory_of s) cs (finished (memory_of s))) (sym none) (none_left refl);
    outcome = is;
  }

  pub stays_nowhere : (choices : List ℕ) → ((e : Ending) → at_end choices e ≡ blocked) →
      Comes d s (still s last) choices NoOutcome
  stays_nowhere choices left = record {
    end = blocked;
    run = none_left (sym (left (finished (memory_of s))));
    outcome = refl;
  }

-- a call of the driver
module _ (d : Design) (s : StateData) (items : List WorkItem) (m : Memory) (choices : List ℕ) (to : Course)
    (counted : length m.values ≡ length s.values) where
  abbrev tree : DesignTree
  tree = design_tree d

  abbrev ComesSo : Outcome → Type 0
  ComesSo o = Comes tree s (driver_work items m) choices o

  abbrev pub Left : Outcome → Memory → Type 0
  Left o n = o ≡ Next (record { values = n.values; places = s.places; last = 1 })

  counts : (e : Ending) → Run tree items m choices e → LeavesCount (length s.values) e
  counts e run = run_counts (length s.values) tree items m choices e run counted

  pub call_ends : {A E : Type 0} (done : A) → Leads d items m choices to (Ok done) → to.choices ≡ [] →
      (r : Result Outcome E) →
      ((n : Memory) → Keeps (tables_of d) to.store n → length n.values ≡ length s.values → IfOk r (λ o. Left o n)) →
      IfOk r ComesSo
  call_ends done leads none r state =
      let run : Run tree items m choices (finished leads.0) =
      subst (λ cs. Run tree items m choices (at_end cs (finished leads.0))) none
      (run_through tree items m choices leads.0 to.choices leads.2) in
      IfOk-weaker r _ _ (λ o is. record { end = finished leads.0; run = run; outcome = is })
      (state leads.0 leads.1 (counts (finished leads.0) run))

  pub call_leaves_choices : {A : Type 0} (done : A) → Leads d items m choices to (Ok done) →
      ((e : Ending) → at_end to.choices e ≡ blocked) → ComesSo NoOutcome
  call_leaves_choices done leads left = record {
    end = blocked;
    run = subst (Run tree items m choices) (left (finished leads.0))
        (run_through tree items m choices leads.0 to.choices leads.2);
    outcome = refl;
  }

  pub call_stops : {E : Type 0} (at : Place) → HaltsSo d items m choices to (halt.Stopped at) →
      (r : Result Outcome E) →
      ((n : Memory) → Keeps (tables_of d) to.store n → length n.values ≡ length s.values → IfOk r (λ o. Left o n)) →
      IfOk r ComesSo
  call_stops at halts r state =
      let e = stopped at to.trail halts.0 in
      let run = run_within tree items m choices e halts.2 in
      IfOk-weaker r _ _ (λ o is. record { end = e; run = run; outcome = is }) (state halts.0 halts.1 (counts e run))

  pub call_fails : HaltsSo d items m choices to halt.Failed → ComesSo Error
  call_fails halts = record { end = failed; run = run_within tree items m choices failed halts; outcome = refl }

  pub call_blocks : HaltsSo d items m choices to halt.Blocked → ComesSo NoOutcome
  call_blocks halts = record { end = blocked; run = run_within tree items m choices blocked halts; outcome = refl }

-- how the rest of a process ends at a state
pub rest_ends : (d : Design) (s : StateData) (p place : ℕ) (from to : Kept) (cs choices values : List ℕ) (e f : End) →
    RestEnds d p place from cs to e → e ≡ f → Keeps (tables_of d) from (plain_memory values) → values ≡ s.values →
    place ≡ slice_index s.places p → cs ≡ choices →
    EndsSo d p (rest (design_tree d) p (slice_index s.places p)) (memory_of s) choices to f
rest_ends d s p place from to cs choices values e f ends is keeps kept at used =
    subst (EndsSo d p (rest (design_tree d) p (slice_index s.places p)) (memory_of s) choices to) is
    (subst (λ cs. EndsSo d p (rest (design_tree d) p (slice_index s.places p)) (memory_of s) cs to e) used
    (subst (λ k. EndsSo d p (rest (design_tree d) p k) (memory_of s) cs to e) at
    (ends (memory_of s) (subst (λ vs. Keeps (tables_of d) from (plain_memory vs)) kept keeps))))

-- a process that has left its location
module _ (d : DesignTree) (s : StateData) (p place last : ℕ) where
  number_within : {A : Type 0} (test : A → Bool) (xs : List A) → position_or_len test xs ≤ length xs
  number_within test xs = prefix_len-le-length (λ x. not (test x)) xs

  pub arrives_within : (w : Memory) (n : ℕ) (e : Ending) → ArrivesAt d p w n e → n ≤ end_number d p
  arrives_within w n (stopped at trail v) is =
      let within = number_within (is_location_at at trail) (locations d p) in omega (arith, within, is.1)
  arrives_within w n (finished v) is = omega (arith, is.1)
  arrives_within w n failed is = absurd is
  arrives_within w n blocked is = absurd is

  abbrev moved : Memory → ℕ → Outcome
  moved w n = Next (record { values = w.values; places = slice_set s.places p n; last = last })

  arrives_so : (w : Memory) (n : ℕ) (e : Ending) → ArrivesAt d p w n e →
      moved w n ≡ outcome_of d s (work_from d s p place last) e
  arrives_so w n (stopped at trail v) is = (λ i. moved (sym is.0 i) (sym is.1 i))
  arrives_so w n (finished v) is = (λ i. moved (sym is.0 i) (sym is.1 i))
  arrives_so w n failed is = absurd is
  arrives_so w n blocked is = absurd is

  pub moves_to : (choices : List ℕ) (w : Memory) (n : ℕ) (e : Ending) →
      Run d (rest d p place) (memory_of s) choices e → ArrivesAt d p w n e → (o : Outcome) → o ≡ moved w n →
      Comes d s (work_from d s p place last) choices o
  moves_to choices w n e run is o at = record { end = e; run = run; outcome = at ∙ arrives_so w n e is }

  pub arrives_counted : (choices : List ℕ) (w : Memory) (n : ℕ) (e : Ending) →
      Run d (rest d p place) (memory_of s) choices e → ArrivesAt d p w n e → length w.values ≡ length s.values
  arrives_counted choices w n e run is =
      by e is (run_counts (length s.values) d (rest d p place) (memory_of s) choices e run refl)
    where
      by : (e : Ending) → ArrivesAt d p w n e → LeavesCount (length s.values) e → length w.values ≡ length s.values
      by (stopped at trail v) is count = ap (λ (m : Memory). length m.values) (sym is.0) ∙ count
      by (finished v) is count = ap (λ (m : Memory). length m.values) (sym is.0) ∙ count
      by failed is count = absurd is
      by blocked is count = absurd is

  pub moves_into_error : (choices : List ℕ) → Run d (rest d p place) (memory_of s) choices failed →
      Comes d s (work_from d s p place last) choices Error
  moves_into_error choices run = record { end = failed; run = run; outcome = refl }

  pub moves_nowhere : (choices : List ℕ) → Run d (rest d p place) (memory_of s) choices blocked →
      Comes d s (work_from d s p place last) choices NoOutcome
  moves_nowhere choices run = record { end = blocked; run = run; outcome = refl }

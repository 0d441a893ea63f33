-- Steps from valid states lead to valid ones.
use Rattle.std.proofs.Common.{◌≡◌, ℕ, zero, suc, ◌+◌, ◌<◌, ◌≤◌, true, nat_lt, not, ◌&&◌, Option, None, Some, List, [], ◌∷◌, length, refl, sym, subst, arith}
use Rattle.std.specs.Prelude.{MatchOption, nat_eq, slice_index, slice_set, unwrap_or}
use Rattle.std.specs.Bool.{then_some}
use Rattle.std.specs.List.{AllByRecursion, AllZip, fold, list_all, range_with_len, zip}
use Rattle.std.proofs.lemmas.List.Sums.{prefix_len-le-length}
use Rattle.tm_base.specs.declared.place.Place.{Place}
use Rattle.tm_syntax.specs.Scopes.Parts.{body_stmts}
use Rattle.tm_syntax.specs.Faults.{IsOfText, IsSound, IsTyped}
use Rattle.tm_syntax.specs.Design.{DesignTree}
use Rattle.tm_syntax.specs.Design.Cells.{Called, Cell}
use Rattle.tm_syntax.specs.Design.Locations.{end_number, is_location_at, location_number, locations, rest}
use Rattle.tm_syntax.specs.Design.Sizes.{type_size}
use Rattle.tm_syntax.specs.Design.Work.{body_items}
use Rattle.tm_sem.specs.declared.state.Move.{Move}
use Rattle.tm_sem.specs.declared.state.Move.TheVariants as moves
use Rattle.tm_sem.specs.declared.state.Outcome.{Outcome}
use Rattle.tm_sem.specs.declared.state.Outcome.TheVariants as outcomes
use Rattle.tm_sem.specs.Run.{Ending, asked_by, blocked, failed, finished, stopped}
use Rattle.tm_sem.specs.State.{StateData}
use Rattle.tm_sem.specs.Step.{Comes, IsState, LeadsToState, Step, Work, arguments_fit, call_work, is_driver_turn, leave_work, locations_after, memory_of, outcome_of, process_work, stands_at_magic, task_of, work}
use Rattle.tm_sem.specs.Value.{Memory, put}
use Rattle.tm_typing.proofs.Fitting.{both_true}
use Rattle.tm_typing.proofs.Listed.{one_thing}
use Rattle.tm_typing.proofs.Sound.{checked}
use Rattle.tm_locations.proofs.TextLeads.{sound_leads}
use Rattle.tm_states.proofs.Bodies.{driver_task}
use Rattle.tm_states.proofs.Callees.{task_own}
use Rattle.tm_design.proofs.Found.{and_then_is}
use Rattle.tm_states.proofs.Found.{below_tested, then_some_is}
use Rattle.tm_states.proofs.Memories.{HoldsTyped, IsOwn, put_typed}
use Rattle.tm_states.proofs.Running.{EndsTyped, ItemsFit, run_typed, standing_fits}
use Rattle.tm_states.proofs.Standing.{called_stands, list_stands, rest_stands}

-- a location that is put at an index is one of the process there
set_within : (end : ℕ → ℕ) (first n : ℕ) (places : List ℕ) (p k : ℕ) → k ≤ end (first + p) →
    AllZip (λ p k. k ≤ end p) (range_with_len first n) places →
    AllZip (λ p k. k ≤ end p) (range_with_len first n) (slice_set places p k)
set_within end first zero [] p k most all = tt
set_within end first zero (x ∷ xs) p k most all = elim all [ ]
set_within end first (suc n) [] p k most all = elim all [ ]
set_within end first (suc n) (x ∷ xs) zero k most all =
    let same : first + 0 ≡ first = omega arith in (subst (λ i. k ≤ end i) same most, all.1)
set_within end first (suc n) (x ∷ xs) (suc p) k most all =
    let same : first + suc p ≡ first + 1 + p = omega arith in
    (all.0, set_within end (first + 1) n xs p k (subst (λ i. k ≤ end i) same most) all.1)

module _ (d : DesignTree) where
  -- no location is beyond the end of its process
  number_within : (p : ℕ) (at : Place) (trail : List Place) → location_number d p at trail ≤ end_number d p
  number_within p at trail = omega (arith, prefix_len-le-length (λ l. not (is_location_at at trail l)) (locations d p))

  abbrev ArePlaces : List ℕ → Type 0
  ArePlaces places = AllZip (λ p k. k ≤ end_number d p) (range_with_len 0 (length d.processes)) places

  moved_within : (s : StateData) → ArePlaces s.places → (mover : Option ℕ) (k : ℕ) →
      ((p : ℕ) → mover ≡ Some p → k ≤ end_number d p) → ArePlaces (locations_after mover s k)
  moved_within s all None k most = all
  moved_within s all (Some p) k most =
      let same : p ≡ 0 + p = omega arith in
      set_within (end_number d) 0 (length d.processes) s.places p k
      (subst (λ i. k ≤ end_number d i) same (most p refl)) all

  -- what a move has to do fits
  record IsReady (w : Work) : Type 0 where
    items : ItemsFit d w.items
    memory : HoldsTyped d w.memory
    last : w.last < 2 + length d.processes

  memory_typed : (s : StateData) → IsState d s → HoldsTyped d (memory_of s)
  memory_typed s valid = record { values = valid.values; passing = tt }

  outcome_valid : (s : StateData) → IsState d s → (w : Work) → w.last < 2 + length d.processes → (e : Ending) →
      EndsTyped d e → LeadsToState d (outcome_of d s w e)
  outcome_valid s valid w less (stopped at trail m) h = record {
    values = h.values;
    places = moved_within s valid.places w.mover (location_number d (unwrap_or w.mover 0) at trail)
        (λ p is. subst (λ (o : Option ℕ). location_number d (unwrap_or o 0) at trail ≤ end_number d p) (sym is)
        (number_within p at trail));
    last = less;
  }
  outcome_valid s valid w less (finished m) h = record {
    values = h.values;
    places = moved_within s valid.places w.mover (end_number d (unwrap_or w.mover 0))
        (λ p is. subst (λ (o : Option ℕ). end_number d (unwrap_or o 0) ≤ end_number d p) (sym is) (omega arith));
    last = less;
  }
  outcome_valid s valid w less failed h = tt
  outcome_valid s valid w less blocked h = tt

  -- the arguments of a driver's call are of the types of their parameters
  arguments_typed : (cells : List Cell) (args : List ℕ) (m : Memory) → HoldsTyped d m → AllByRecursion (IsOwn d) cells →
      list_all (λ (p : Cell × ℕ). nat_lt p.1 (type_size d.spec (asked_by d (Some p.0)))) (zip cells args) ≡ true →
      HoldsTyped d (fold (λ m (p : Cell × ℕ). put m p.0 p.1) m (zip cells args))
  arguments_typed [] args m h own fit = h
  arguments_typed (c ∷ cs) [] m h own fit = h
  arguments_typed (c ∷ cs) (n ∷ ns) m h own fit =
      let both = both_true (nat_lt n (type_size d.spec (asked_by d (Some c))))
      (list_all (λ (p : Cell × ℕ). nat_lt p.1 (type_size d.spec (asked_by d (Some p.0)))) (zip cs ns)) fit in
      arguments_typed cs ns (put m c n)
      (put_typed d m c n h own.0 (below_tested n (type_size d.spec (asked_by d (Some c))) both.0)) own.1 both.1

  module _ (sound : IsSound d) (of : IsOfText d.spec) where
    typed : IsTyped d.spec
    typed = checked d sound of

    rest_ready : (s : StateData) → IsState d s → (p last : ℕ) → last < 2 + length d.processes →
        IsReady (record {
          items = rest d p (slice_index s.places p);
          memory = memory_of s;
          mover = Some p;
          last = last;
        })
    rest_ready s valid p last less = record {
      items = standing_fits d (rest d p (slice_index s.places p)) (rest_stands d typed p (slice_index s.places p));
      memory = memory_typed s valid;
      last = less;
    }

    process_ready : (s : StateData) → IsState d s → (p : ℕ) (w : Work) → process_work d s p ≡ Some w → IsReady w
    process_ready s valid p w is =
        let inside = nat_lt p (length d.processes) in
        let before = nat_lt (slice_index s.places p) (end_number d p) in
        let found = then_some_is (inside && before && not (stands_at_magic d s p))
        (record {
          items = rest d p (slice_index s.places p);
          memory = memory_of s;
          mover = Some p;
          last = 2 + p;
        }) w is in
        let first = both_true inside before (both_true (inside && before) (not (stands_at_magic d s p)) found.0).0 in
        let less = below_tested p (length d.processes) first.0 in
        subst IsReady found.1 (rest_ready s valid p (2 + p) (omega (arith, less)))

    leave_ready : (s : StateData) → IsState d s → (p : ℕ) (w : Work) → leave_work d s p ≡ Some w → IsReady w
    leave_ready s valid p w is =
        let found = then_some_is (nat_lt p (length d.processes) && stands_at_magic d s p)
        (record {
          items = rest d p (slice_index s.places p);
          memory = memory_of s;
          mover = Some p;
          last = 1;
        }) w is in
        subst IsReady found.1 (rest_ready s valid p 1 (omega arith))

    call_ready : (s : StateData) → IsState d s → (t : ℕ) (args : List ℕ) (w : Work) →
        call_work d s t args ≡ Some w → IsReady w
    call_ready s valid t args w is =
        let made : Called → Work = (λ (callee : Called). record {
          items = body_items callee.scope [] callee.body;
          memory = fold (λ m p. put m p.0 p.1) (memory_of s) (zip callee.params args);
          mover = None;
          last = 1;
        }) in
        let callee = and_then_is (λ (callee : Called).
        then_some (is_driver_turn d s && arguments_fit d callee.params args) (made callee)) (task_of d t) w is in
        let found = then_some_is (is_driver_turn d s && arguments_fit d callee.0.params args) (made callee.0) w callee.2
        in
        let fit = (both_true (is_driver_turn d s) (arguments_fit d callee.0.params args) found.0).1 in
        let to = driver_task d t callee.0 callee.1 in
        let body = called_stands d typed callee.0 to in
        subst IsReady found.1 (record {
          items = standing_fits d (body_items callee.0.scope [] callee.0.body)
              (list_stands d callee.0.scope body.place body.here [] (body_stmts callee.0.body) body.promised);
          memory = arguments_typed callee.0.params args (memory_of s) (memory_typed s valid)
              (task_own d typed sound.numbered callee.0 to)
              (both_true (nat_eq (length callee.0.params) (length args))
              (list_all (λ (p : Cell × ℕ). nat_lt p.1 (type_size d.spec (asked_by d (Some p.0))))
              (zip callee.0.params args)) fit).1;
          last = omega arith;
        })

    work_ready : (s : StateData) → IsState d s → (move : Move) (w : Work) → work d s move ≡ Some w → IsReady w
    work_ready s valid moves.Stutter w is =
        let same : record { items = []; memory = memory_of s; mover = None; last = 0 } ≡ w = one_thing refl is in
        subst IsReady same (record { items = tt; memory = memory_typed s valid; last = omega arith })
    work_ready s valid (moves.Process p) w is = process_ready s valid p w is
    work_ready s valid moves.Idle w is =
        let found = then_some_is (is_driver_turn d s)
        (record { items = []; memory = memory_of s; mover = None; last = 1 }) w is in
        subst IsReady found.1 (record { items = tt; memory = memory_typed s valid; last = omega arith })
    work_ready s valid (moves.Leave p) w is = leave_ready s valid p w is
    work_ready s valid (moves.Call t args) w is = call_ready s valid t args w is

    work_valid : (s : StateData) → IsState d s → (choices : List ℕ) (o : Outcome) (found : Option Work) →
        ((w : Work) → found ≡ Some w → IsReady w) →
        MatchOption found (o ≡ outcomes.NoOutcome) (λ w. Comes d s w choices o) → LeadsToState d o
    work_valid s valid choices o None ready step = subst (LeadsToState d) (sym step) tt
    work_valid s valid choices o (Some w) ready step =
        let h = ready w refl in
        subst (LeadsToState d) (sym step.outcome)
        (outcome_valid s valid w h.last step.end
        (run_typed d typed sound.numbered (sound_leads d sound) w.items h.items w.memory h.memory choices step.end
        step.run))

pub steps_valid : (d : DesignTree) → IsSound d → IsOfText d.spec → (s : StateData) (move : Move)
    (choices : List ℕ) (o : Outcome) → IsState d s → Step d s move choices o → LeadsToState d o
steps_valid d sound of s move choices o valid step =
    work_valid d sound of s valid choices o (work d s move) (work_ready d sound of s valid move) step

-- What the tables of a design say of its locations, and what a move with an outcome says of its state.
use Rattle.std.proofs.Common.{◌≡◌, ◌≢◌, ℕ, zero, suc, ◌+◌, ◌<◌, ◌≤◌, Bool, true, false, Option, None, Some, List, [], ◌∷◌, length, get_or, map, inl, inr, refl, sym, ap, ◌∙◌, subst, arith}
use Rattle.std.specs.Prelude.{◌&&◌, not, nat_lt, slice_get, slice_index, MatchOption}
use Rattle.std.specs.Bool.{then_some}
use Rattle.std.specs.List.{range_with_len}
use Rattle.std.specs.Option.{option_and_then}
use Rattle.std.proofs.lemmas.Bool.{and_parts, cases_lt, ltb-true, not-true}
use Rattle.std.proofs.lemmas.List.Elements.{AllZip-get_or}
use Rattle.std.proofs.lemmas.List.Folds.{Any-from_list_any, list_any_at}
use Rattle.std.proofs.lemmas.List.FromFn.{get_or-range_with_len, length-range_with_len}
use Rattle.tm_term.specs.Table.{Table}
use Rattle.tm_syntax.specs.Design.{DesignTree}
use Rattle.tm_syntax.specs.Design.Cells.{Called}
use Rattle.tm_syntax.specs.Design.Locations.{end_number, is_magic_at}
use Rattle.tm_sem.specs.declared.state.Move.TheVariants as moves
use Rattle.tm_sem.specs.declared.state.Outcome.{Outcome}
use Rattle.tm_sem.specs.declared.state.Outcome.TheVariants.{Next, NoOutcome}
use Rattle.tm_sem.specs.State.{StateData}
use Rattle.tm_sem.specs.Run.{Ending, finished, Run, none_left}
use Rattle.tm_sem.specs.Step.{Comes, IsState, Step, Work, arguments_fit, is_driver_turn, memory_of, outcome_of, stands_at_magic, task_of}
use Rattle.tm_flat.specs.Flat.{FlatTerms}
use Rattle.tm_flat.specs.IsFlat.{IsFlat, location_numbers}
use Rattle.tm_game_bits.specs.Told.{magic_at}

-- ---- tables
-- a list made of numbers in order, at a place
mapped_at : {X : Type 0} → (h : ℕ → X) (a n i : ℕ) → i < n → slice_get (map h (range_with_len a n)) i ≡ Some (h (a + i))
mapped_at h a zero i below = absurd (omega arith)
mapped_at h a (suc n) zero below = let here : a ≡ a + 0 = omega arith in ap (λ k. Some (h k)) here
mapped_at h a (suc n) (suc i) below =
    let here : a + 1 + i ≡ a + suc i = omega arith in
    mapped_at h (a + 1) n i (omega arith) ∙ ap (λ k. Some (h k)) here

mapped_past : {X : Type 0} → (h : ℕ → X) (a n i : ℕ) → n ≤ i → slice_get (map h (range_with_len a n)) i ≡ None
mapped_past h a zero i past = refl
mapped_past h a (suc n) zero past = absurd (omega arith)
mapped_past h a (suc n) (suc i) past = mapped_past h (a + 1) n i (omega arith)

-- a place of a table
abbrev in_table : List (List Bool) → ℕ → ℕ → Option Bool
in_table rows p k = option_and_then (λ row. slice_get row k) (slice_get rows p)

module _ (t : Table) (d : DesignTree) (f : FlatTerms) (flat : IsFlat t d f) where
  -- whether a location is a magic block
  abbrev row : ℕ → List Bool
  row p = map (is_magic_at d p) (location_numbers d p)

  pub magic_of : (p k : ℕ) → p < length d.processes → k ≤ end_number d p → magic_at f p k ≡ Some (is_magic_at d p k)
  magic_of p k inside within =
      let first : 0 + p ≡ p = omega arith in
      let second : 0 + k ≡ k = omega arith in
      ap (λ rows. in_table rows p k) flat.magic
      ∙ ap (λ o. option_and_then (λ r. slice_get r k) o)
      (mapped_at row 0 (length d.processes) p inside ∙ ap (λ q. Some (row q)) first)
      ∙ mapped_at (is_magic_at d p) 0 (end_number d p + 1) k (omega arith)
      ∙ ap (λ j. Some (is_magic_at d p j)) second

  -- the process and location of an entry
  pub record IsLocation (p k : ℕ) (magic : Bool) : Type 0 where
    pub inside : p < length d.processes
    pub within : k ≤ end_number d p
    pub is : is_magic_at d p k ≡ magic

  pub magic_is : (p k : ℕ) (magic : Bool) → magic_at f p k ≡ Some magic → IsLocation p k magic
  magic_is p k magic there =
      elim (cases_lt p (length d.processes)) as (λ _. IsLocation p k magic) [
        | inl inside ↦
            elim (cases_lt k (end_number d p + 1)) as (λ _. IsLocation p k magic) [
              | inl within ↦
                  let same : Some (is_magic_at d p k) ≡ Some magic =
                  sym (magic_of p k inside (omega arith)) ∙ there in
                  record { inside = inside; within = omega arith; is = cc }
              | inr past ↦
                  let first : 0 + p ≡ p = omega arith in
                  let none : None ≡ Some magic =
                  sym (ap (λ rows. in_table rows p k) flat.magic
                  ∙ ap (λ o. option_and_then (λ r. slice_get r k) o)
                  (mapped_at row 0 (length d.processes) p inside ∙ ap (λ q. Some (row q)) first)
                  ∙ mapped_past (is_magic_at d p) 0 (end_number d p + 1) k past) ∙ there in
                  cc
            ]
        | inr outside ↦
            let none : None ≡ Some magic =
            sym (ap (λ rows. in_table rows p k) flat.magic
            ∙ ap (λ o. option_and_then (λ r. slice_get r k) o)
            (mapped_past row 0 (length d.processes) p outside)) ∙ there in
            cc
      ]

-- a process stands at one of its locations
pub stands_within : (d : DesignTree) (s : StateData) (p : ℕ) → IsState d s → p < length d.processes →
    slice_index s.places p ≤ end_number d p
stands_within d s p valid inside =
    let first : 0 + p ≡ p = omega arith in
    subst (λ (q : ℕ). get_or s.places p 0 ≤ end_number d q)
    (get_or-range_with_len 0 (length d.processes) p 0 inside ∙ first)
    (AllZip-get_or (λ q k. k ≤ end_number d q) (range_with_len 0 (length d.processes)) s.places p 0 0 valid.places
    (omega (arith, length-range_with_len 0 (length d.processes))))

-- a process that stands at a magic block makes it the driver's turn
pub turn_of_magic : (d : DesignTree) (s : StateData) (p : ℕ) → p < length d.processes →
    stands_at_magic d s p ≡ true → is_driver_turn d s ≡ true
turn_of_magic d s p inside stands =
    let first : 0 + p ≡ p = omega arith in
    list_any_at (stands_at_magic d s) (range_with_len 0 (length d.processes)) p 0
    (omega (arith, length-range_with_len 0 (length d.processes)))
    (ap (stands_at_magic d s) (get_or-range_with_len 0 (length d.processes) p 0 inside ∙ first) ∙ stands)

-- at the driver's turn some process stands at a magic block
pub magic_of_turn : (d : DesignTree) (s : StateData) → is_driver_turn d s ≡ true →
    (p : ℕ) × (p < length d.processes) × (stands_at_magic d s p ≡ true)
magic_of_turn d s turn =
    let found = Any-from_list_any (stands_at_magic d s) (range_with_len 0 (length d.processes)) turn in
    let below : found.0 < length d.processes = omega (arith, found.2, length-range_with_len 0 (length d.processes)) in
    let is : 0 + found.0 ≡ found.1 =
    sym (get_or-range_with_len 0 (length d.processes) found.0 found.1 below) ∙ found.3 in
    (found.1, omega arith, found.4)

-- ---- moves with an outcome
-- a task that is called is there, and its arguments fit
pub record IsCall (d : DesignTree) (n : ℕ) (args : List ℕ) : Type 0 where
  pub callee : Called
  pub known : task_of d n ≡ Some callee
  pub fit : arguments_fit d callee.params args ≡ true

module _ (d : DesignTree) (s : StateData) (cs : List ℕ) (o : Outcome) (comes : o ≢ NoOutcome) where
  -- work that is there under a test, and leads to an outcome, passes the test
  tested : (test : Bool) (w : Work) → MatchOption (then_some test w) (o ≡ NoOutcome) (λ w. Comes d s w cs o) →
      test ≡ true
  tested true w h = refl
  tested false w h = absurd (comes h)

  -- a process that moves stands at a location that is no magic block
  pub moves_from : (p : ℕ) → Step d s (moves.Process p) cs o →
      (p < length d.processes) × (stands_at_magic d s p ≡ false)
  moves_from p step =
      let tests = tested
      (nat_lt p (length d.processes) && nat_lt (slice_index s.places p) (end_number d p)
      && not (stands_at_magic d s p)) _ step in
      let both = and_parts (nat_lt p (length d.processes) && nat_lt (slice_index s.places p) (end_number d p))
      (not (stands_at_magic d s p)) tests in
      let first = and_parts (nat_lt p (length d.processes)) (nat_lt (slice_index s.places p) (end_number d p))
      both.0 in
      (ltb-true p (length d.processes) first.0, not-true (stands_at_magic d s p) both.1)

  -- a process that the driver lets go stands at a magic block
  pub leaves_from : (p : ℕ) → Step d s (moves.Leave p) cs o →
      (p < length d.processes) × (stands_at_magic d s p ≡ true)
  leaves_from p step =
      let tests = tested (nat_lt p (length d.processes) && stands_at_magic d s p) _ step in
      let both = and_parts (nat_lt p (length d.processes)) (stands_at_magic d s p) tests in
      (ltb-true p (length d.processes) both.0, both.1)

  pub called_with : (n : ℕ) (args : List ℕ) → Step d s (moves.Call n args) cs o → IsCall d n args
  called_with n args step = of_task (task_of d n) refl (λ c. is_driver_turn d s && arguments_fit d c.params args) _ step
      (λ c h. (and_parts (is_driver_turn d s) (arguments_fit d c.params args) h).1)
    where
      of_task : (k : Option Called) → task_of d n ≡ k → (test : Called → Bool) (does : Called → Work) →
          MatchOption (option_and_then (λ c. then_some (test c) (does c)) k) (o ≡ NoOutcome) (λ w. Comes d s w cs o) →
          ((c : Called) → test c ≡ true → arguments_fit d c.params args ≡ true) → IsCall d n args
      of_task None is test does h fits = absurd (comes h)
      of_task (Some c) is test does h fits =
          record { callee = c; known = is; fit = fits c (tested (test c) (does c) h) }

  -- an idle move changes who moved last alone
  pub idles_to : Step d s moves.Idle cs o → o ≡ Next (record s { last = 1 })
  idles_to step = of_test (is_driver_turn d s) step
    where
      of_run : (ds : List ℕ) (e : Ending) → Run d [] (memory_of s) ds e →
          o ≡ outcome_of d s (record { items = []; memory = memory_of s; mover = None; last = 1 }) e →
          o ≡ Next (record s { last = 1 })
      of_run [] e (none_left is) led =
          led ∙ ap (outcome_of d s (record { items = []; memory = memory_of s; mover = None; last = 1 })) is
      of_run (n ∷ ns) e (none_left is) led =
          absurd (comes
          (led ∙ ap (outcome_of d s (record { items = []; memory = memory_of s; mover = None; last = 1 })) is))

      of_test : (test : Bool) →
          MatchOption (then_some test (record { items = []; memory = memory_of s; mover = None; last = 1 }))
          (o ≡ NoOutcome) (λ w. Comes d s w cs o) → o ≡ Next (record s { last = 1 })
      of_test true h = of_run cs h.end h.run h.outcome
      of_test false h = absurd (comes h)

-- at its turn the driver can idle
pub can_idle : (d : DesignTree) (s : StateData) → is_driver_turn d s ≡ true →
    Step d s moves.Idle [] (Next (record s { last = 1 }))
can_idle d s turn = of_test (is_driver_turn d s) turn
  where
    of_test : (test : Bool) → test ≡ true →
        MatchOption (then_some test (record { items = []; memory = memory_of s; mover = None; last = 1 }))
        (Next (record s { last = 1 }) ≡ NoOutcome) (λ w. Comes d s w [] (Next (record s { last = 1 })))
    of_test true is = record { end = finished (memory_of s); run = none_left refl; outcome = refl }
    of_test false is = cc

-- A game over bits that the terms of a design tell is the design's.
use Rattle.std.proofs.Common.{◌≡◌, ℕ, ◌<◌, Bool, true, false, cond, eqb, Some, List, [], length, get_or, refl, sym, ap, ◌∙◌, subst, arith}
use Rattle.std.specs.Prelude.{◌↔◌, All, Any, Contains, slice_get, slice_index, sum}
use Rattle.std.proofs.lemmas.Bool.{eq-eqb, eqb-true}
use Rattle.std.proofs.lemmas.Option.{slice_get_within}
use Rattle.std.proofs.lemmas.Slice.Zip.{AllZip-long}
use Rattle.std.proofs.lemmas.List.FromFn.{length-range_with_len}
use Rattle.std.specs.List.{range_with_len}
use Rattle.tm_base.specs.Arithmetic.{bit}
use Rattle.tm_game_bits.specs.GameOf.{HasArgumentsBehind, IsDriverMove, IsEnvironmentMove, IsGameOf, IsMoveAt, IsMoveForSome, IsSomewhere, outcome_in}
use Rattle.tm_ddops.specs.Quantified.{AgreeElsewhere}
use Rattle.tm_game_bits.specs.Functions.{Assignment, StepFunctions, GameFunctions, after}
use Rattle.tm_term.specs.Table.{Table}
use Rattle.tm_term.specs.Value.{value_of}
use Rattle.tm_syntax.specs.Design.{DesignTree, IsDesign}
use Rattle.tm_syntax.specs.Design.Locations.{is_magic_at}
use Rattle.tm_sem.specs.declared.state.Move.{Move}
use Rattle.tm_sem.specs.declared.state.Move.TheVariants as moves
use Rattle.tm_sem.specs.declared.state.Outcome.TheVariants.{Next, Error, NoOutcome}
use Rattle.tm_sem.specs.State.{StateData}
use Rattle.tm_sem.specs.StateBits.{state_widths}
use Rattle.tm_sem.specs.Step.{IsAllowed, IsEnabled, IsState, Step, is_driver_move, is_driver_turn}
use Rattle.tm_sem.proofs.Turns.{at_turn}
use Rattle.tm_flat.specs.BitStep.{HasRoom}
use Rattle.tm_flat.specs.Flat.{StepTerms, FlatTerms}
use Rattle.tm_flat.specs.Inputs.{room, arguments_in}
use Rattle.tm_flat.specs.IsFlat.{IsFlat, step_from}
use Rattle.tm_flat.specs.Steps.{IsTaskStep, Tells, move_from}
use Rattle.tm_flat.proofs.Arguments.{calls_are_told}
use Rattle.tm_flat.proofs.Telling.{process_steps_tell, task_steps_tell}
use Rattle.tm_game_bits.specs.Order.{IsOrder}
use Rattle.tm_game_bits.specs.Inputs.{arguments_at, choices_at}
use Rattle.tm_game_bits.specs.AssignedStates.{coding_of, state_of}
use Rattle.tm_game_bits.proofs.Choices.{chosen_among}
use Rattle.tm_game_bits.proofs.Coded.{state_told}
use Rattle.tm_game_bits.proofs.InputLevels.{are_bits, values_fit}
use Rattle.tm_game_bits.specs.Told.{argument_levels, choice_levels, idles, inputs_at, leaves, calls, IsFrom, IsIdle, IsOfDriver, IsOfTask, IsTold, stands_at}
use Rattle.tm_game_bits.proofs.Bits.{range_within, with_bits, with_bits-are, with_bits-elsewhere}
use Rattle.tm_game_bits.proofs.Steps.{is_move, state_argued, state_chosen}
use Rattle.tm_game_bits.proofs.Tasks.{has_tasks}
use Rattle.tm_game_bits.proofs.Tables.{IsCall, called_with, can_idle, idles_to, leaves_from, magic_is, magic_of, magic_of_turn, moves_from, stands_within, turn_of_magic}

bit_one : (b : Bool) → bit b ≡ 1 → b ≡ true
bit_one true is = refl
bit_one false is = absurd (omega arith)

same_truth : (a b : Bool) → (a ≡ true → b ≡ true) → (b ≡ true → a ≡ true) → a ≡ b
same_truth true b to from = sym (to refl)
same_truth false true to from = from refl
same_truth false false to from = refl

-- a process moves by itself, but for one at a magic block, which the driver lets go
who_moves : (p : ℕ) (magic : Bool) → is_driver_move (cond magic (moves.Leave p) (moves.Process p)) ≡ magic
who_moves p true = refl
who_moves p false = refl

moves_at : (p : ℕ) (b magic : Bool) → b ≡ magic →
    cond b (moves.Leave p) (moves.Process p) ≡ cond magic (moves.Leave p) (moves.Process p)
moves_at p b magic is = ap (λ (k : Bool). cond k (moves.Leave p) (moves.Process p)) is

-- what holds of each step of a list holds of one that stands there
some_step : (P Q : StepFunctions → Type 0) (steps : List StepFunctions) → ((step : StepFunctions) → P step → Q step) →
    Any P steps → Any Q steps
some_step P Q steps to found = (found.0, found.1, found.2, found.3, to found.1 found.4)

module _ (t : Table) (d : DesignTree) (order : List ℕ) (f : FlatTerms) (g : GameFunctions) (flat : IsFlat t d f)
    (fits : HasRoom d) (design : IsDesign d) (is : IsOrder (sum (state_widths d)) order)
    (told : IsTold t d order f g) where
  -- ---- states
  valid_is : (v : Assignment) → (g.valid v ≡ true) ↔ IsState d (state_of d order v)
  valid_is v =
      let holds = flat.valid.holds (inputs_at d order v) (values_fit d order is t flat.inputs v) in
      let same = state_told d order is v (choices_at order v) (arguments_at order v) in (
        λ there. subst (IsState d) same (holds.0 (told.valid v ∙ ap bit there)),
        λ state. bit_one (g.valid v) (sym (told.valid v) ∙ holds.1 (subst (IsState d) (sym same) state)),
      )

  turn_is : (v : Assignment) → IsState d (state_of d order v) → g.turn v ≡ is_driver_turn d (state_of d order v)
  turn_is v valid = same_truth (g.turn v) (is_driver_turn d (state_of d order v)) to from
    where
      to : g.turn v ≡ true → is_driver_turn d (state_of d order v) ≡ true
      to turn =
          let found = (told.turn v).0 turn in
          let at = magic_is t d f flat found.0 found.1 true found.2 in
          let place : slice_index (state_of d order v).places found.0 ≡ found.1 = eqb-true _ _ found.3 in
          turn_of_magic d (state_of d order v) found.0 at.inside (ap (is_magic_at d found.0) place ∙ at.is)

      from : is_driver_turn d (state_of d order v) ≡ true → g.turn v ≡ true
      from turn =
          let found = magic_of_turn d (state_of d order v) turn in
          let place = slice_index (state_of d order v).places found.0 in
          (told.turn v).1 (
            found.0,
            slice_index (state_of d order v).places found.0,
            magic_of t d f flat found.0 (slice_index (state_of d order v).places found.0) found.1
                (stands_within d (state_of d order v) found.0 valid found.1)
                ∙ ap Some found.2,
            eq-eqb _ _ refl,
          )

  -- ---- steps of processes
  -- the step of a process from a location is its move where it stands there
  process_move : (magic : Bool) (p k : ℕ) (step : StepFunctions) (v : Assignment) → IsFrom t d order f magic p k step →
      IsState d (state_of d order v) → stands_at d order p k v ≡ true →
      IsMoveAt d (coding_of d order) step (cond magic (moves.Leave p) (moves.Process p)) v
  process_move magic p k step v from valid stands =
      let s = state_of d order v in
      let at = magic_is t d f flat p k magic from.0 in
      let place : slice_index (state_of d order v).places p ≡ k = eqb-true _ _ stands in
      let found = process_steps_tell t d f flat (state_of d order v) p (arguments_at order v) valid at.inside
      (are_bits v (length order)) in
      let same : Some from.1 ≡ Some found.0 =
      sym from.2 ∙ ap (step_from f p) (sym place) ∙ found.1 in
      let terms : found.0 ≡ from.1 = cc in
      let is_this : move_from d p (slice_index (state_of d order v).places p)
      ≡ cond magic (moves.Leave p) (moves.Process p) =
      ap (move_from d p) place ∙ moves_at p (is_magic_at d p k) magic at.is in
      is_move t d order is (stands_at d order p k) [] from.1 step from.3
      (cond magic (moves.Leave p) (moves.Process p)) v
      (λ w one. ap (λ (u : StateData). eqb (slice_index u.places p) k) one ∙ stands)
      (subst (λ (m : Move). Tells t d from.1 (state_of d order v) m (arguments_at order v)) is_this
      (subst (λ (x : StepTerms).
      Tells t d x (state_of d order v) (move_from d p (slice_index (state_of d order v).places p))
      (arguments_at order v)) terms found.2))

  -- where such a step has an outcome its process stands there
  stands_somewhere : (magic : Bool) (p k : ℕ) (step : StepFunctions) (v : Assignment) →
      IsFrom t d order f magic p k step → IsSomewhere step v → stands_at d order p k v ≡ true
  stands_somewhere magic p k step v from some =
      let chosen = chosen_among (choice_levels order) step.choices (λ u. value_of t (inputs_at d order u)) from.1
      from.3.choices v some.0 some.1 in
      ap (λ (u : StateData). eqb (slice_index u.places p) k) (sym (state_chosen t d order is v some.0 chosen))
      ∙ from.3.guarded some.0 some.2

  environment_is : (v : Assignment) → IsState d (state_of d order v) →
      All (IsEnvironmentMove d (coding_of d order) v) g.environment
  environment_is v valid k other below some =
      let found = told.environment k other below in
      let p = found.0 in (
        moves.Process found.0,
        refl,
        process_move false found.0 found.1 (get_or g.environment k other) v found.2 valid
            (stands_somewhere false found.0 found.1 (get_or g.environment k other) v found.2 some),
      )

  processes_are : (v : Assignment) (p : ℕ) → IsState d (state_of d order v) → IsEnabled d (state_of d order v) p →
      Any (λ (step : StepFunctions). IsMoveAt d (coding_of d order) step (moves.Process p) v) g.environment
  processes_are v p valid enabled =
      let from = moves_from d (state_of d order v) enabled.0 enabled.1 enabled.3 p enabled.2 in
      let k = slice_index (state_of d order v).places p in
      let magic = magic_of t d f flat p (slice_index (state_of d order v).places p) from.0
      (stands_within d (state_of d order v) p valid from.0) ∙ ap Some from.1 in
      some_step (IsFrom t d order f false p (slice_index (state_of d order v).places p))
      (λ (step : StepFunctions). IsMoveAt d (coding_of d order) step (moves.Process p) v) g.environment
      (λ step at.
      process_move false p (slice_index (state_of d order v).places p) step v at valid (eq-eqb _ _ refl))
      (told.processes p (slice_index (state_of d order v).places p) magic)

  -- ---- steps of the driver
  -- to idle is a move at the driver's turn
  idle_move : (step : StepFunctions) (v : Assignment) → IsIdle d order g.turn step → IsState d (state_of d order v) →
      is_driver_turn d (state_of d order v) ≡ true → IsMoveAt d (coding_of d order) step moves.Idle v
  idle_move step v idle valid turn = record {
    outcomes = λ w chosen some. (
      [],
      subst (Step d (state_of d order v) moves.Idle []) (sym (leads w chosen))
          (can_idle d (state_of d order v) turn),
    );
    all = λ choices o some made. (
      v,
      λ k absent. refl,
      leads v (λ k absent. refl)
          ∙ sym (idles_to d (state_of d order v) choices o some made),
    );
  }
    where
      here : (w : Assignment) → AgreeElsewhere step.choices v w → w ≡ v
      here w chosen = λ i k. chosen k
          (λ there.
          let none : there.0 < length step.choices = there.1 in
          omega (arith, ap length idle.choices)) i

      leads : (w : Assignment) → AgreeElsewhere step.choices v w → outcome_in (coding_of d order) step w
          ≡ Next (record (state_of d order v) { last = 1 })
      leads w chosen =
          (λ i. cond (step.legal (here w chosen i)) (cond (step.error (here w chosen i)) Error
          (Next (state_of d order (after step.next (here w chosen i))))) NoOutcome)
          ∙ (λ i. cond ((idle.legal v ∙ turn_is v valid ∙ turn) i) (cond (idle.error v i) Error
          (Next (idle.next v i))) NoOutcome)

  -- a call is a move
  task_move : (n : ℕ) (step : StepFunctions) (v : Assignment) (args : List ℕ) → (of : IsOfTask t d order f n step) →
      Tells t d of.0 (state_of d order v) (moves.Call n args) (arguments_at order v) →
      IsMoveAt d (coding_of d order) step (moves.Call n args) v
  task_move n step v args of tells =
      is_move t d order is (λ w. true) (argument_levels order) of.0 step of.2 (moves.Call n args) v (λ w one. refl)
      tells

  tasks_long : (n : ℕ) (terms : StepTerms) → slice_get f.tasks n ≡ Some terms → n < length d.tasks
  tasks_long n terms there =
      let long = AllZip-long (IsTaskStep t d) (range_with_len 0 (length d.tasks)) f.tasks flat.tasks in
      let below = slice_get_within f.tasks n terms there in
      omega (arith, long, length-range_with_len 0 (length d.tasks), below)

  driver_move : (v : Assignment) → IsState d (state_of d order v) → (step : StepFunctions) →
      IsOfDriver t d order f g.turn step → IsDriverMove d (coding_of d order) v step
  driver_move v valid step (idles idle) some =
      let same : some.0 ≡ v =
      λ i k. some.1 k (λ there. let none : there.0 < length step.choices = there.1 in
      omega (arith, ap length idle.choices)) i in (
        moves.Idle,
        refl,
        idle_move step v idle valid
            (sym (turn_is v valid) ∙ sym (idle.legal v) ∙ ap step.legal (sym same) ∙ some.2),
      )
  driver_move v valid step (leaves p k from) some = (
    moves.Leave p,
    refl,
    process_move true p k step v from valid (stands_somewhere true p k step v from some),
  )
  driver_move v valid step (calls n of) some =
      let callee = has_tasks d design n (tasks_long n of.0 of.1) in
      let found = task_steps_tell t d f flat (state_of d order v) n callee.0 (arguments_at order v) valid callee.1
      (are_bits v (length order)) in
      let same : Some of.0 ≡ Some found.0 = sym of.1 ∙ found.1 in
      let terms : found.0 ≡ of.0 = cc in (
        moves.Call n (arguments_in d callee.0.params (arguments_at order v)),
        refl,
        task_move n step v (arguments_in d callee.0.params (arguments_at order v)) of
            (subst (λ (x : StepTerms).
            Tells t d x (state_of d order v)
            (moves.Call n (arguments_in d callee.0.params (arguments_at order v))) (arguments_at order v)) terms
            found.2),
      )

  driver_is : (v : Assignment) → IsState d (state_of d order v) →
      All (IsDriverMove d (coding_of d order) v) g.driver
  driver_is v valid k other below =
      driver_move v valid (get_or g.driver k other) (told.driver k other below)

  -- a step with the arguments of a call is the call
  call_move : (n : ℕ) (args : List ℕ) (v : Assignment) → IsState d (state_of d order v) →
      IsCall d n args → Any (IsMoveForSome d (coding_of d order) (moves.Call n args) v) g.driver
  call_move n args v valid call =
      let found = calls_are_told t d f flat fits (state_of d order v) n call.callee args valid call.known call.fit in
      let w = with_bits (length order) found.0 v in
      let others = with_bits-elsewhere (length order) found.0 v in
      let bits = with_bits-are (length order) found.0 v found.1 in
      let state = state_argued t d order is v (with_bits (length order) found.0 v) others in
      some_step (IsOfTask t d order f n) (IsMoveForSome d (coding_of d order) (moves.Call n args) v) g.driver
      (λ step of.
      let same : Some of.0 ≡ Some found.2 = sym of.1 ∙ found.3 in
      let terms : found.2 ≡ of.0 = cc in (
        with_bits (length order) found.0 v,
        subst (λ (levels : List ℕ). AgreeElsewhere levels v (with_bits (length order) found.0 v)) (sym of.2.arguments)
            others,
        task_move n step (with_bits (length order) found.0 v) args of
            (subst (λ (x : StepTerms).
            Tells t d x (state_of d order (with_bits (length order) found.0 v)) (moves.Call n args)
            (arguments_at order (with_bits (length order) found.0 v))) terms
            (subst (λ (u : StateData).
            Tells t d found.2 u (moves.Call n args) (arguments_at order (with_bits (length order) found.0 v)))
            (sym state)
            (subst (λ (b : List ℕ). Tells t d found.2 (state_of d order v) (moves.Call n args) b) (sym bits)
            found.4))),
      ))
      (told.calling n found.2 found.3)

  moves_are : (v : Assignment) (move : Move) → IsState d (state_of d order v) →
      IsAllowed d (state_of d order v) move → Any (IsMoveForSome d (coding_of d order) move v) g.driver
  moves_are v moves.Stutter valid allowed = cc
  moves_are v (moves.Process p) valid allowed = cc
  moves_are v moves.Idle valid allowed =
      let turn = at_turn d (state_of d order v) allowed.1 allowed.2 allowed.4 moves.Idle refl allowed.3 in
      some_step (IsIdle d order g.turn) (IsMoveForSome d (coding_of d order) moves.Idle v) g.driver
      (λ step idle. (v, λ k absent. refl, idle_move step v idle valid turn)) told.idle
  moves_are v (moves.Leave p) valid allowed =
      let from = leaves_from d (state_of d order v) allowed.1 allowed.2 allowed.4 p allowed.3 in
      let magic = magic_of t d f flat p (slice_index (state_of d order v).places p) from.0
      (stands_within d (state_of d order v) p valid from.0) ∙ ap Some from.1 in
      some_step (IsFrom t d order f true p (slice_index (state_of d order v).places p))
      (IsMoveForSome d (coding_of d order) (moves.Leave p) v) g.driver
      (λ step at. (
        v,
        λ k absent. refl,
        process_move true p (slice_index (state_of d order v).places p) step v at valid (eq-eqb _ _ refl),
      ))
      (told.leaving p (slice_index (state_of d order v).places p) magic)
  moves_are v (moves.Call n args) valid allowed =
      call_move n args v valid
      (called_with d (state_of d order v) allowed.1 allowed.2 allowed.4 n args allowed.3)

  behind : (step : StepFunctions) → IsOfDriver t d order f g.turn step → HasArgumentsBehind (length order) step
  behind step (idles idle) k there =
      let none : there.0 < length step.arguments = there.1 in absurd (omega (arith, ap length idle.arguments))
  behind step (leaves p n from) k there =
      let none : there.0 < length step.arguments = there.1 in absurd (omega (arith, ap length from.3.arguments))
  behind step (calls n of) k there =
      (range_within (length order) room k
      (subst (λ (levels : List ℕ). Contains levels k) of.2.arguments there)).0

  pub is_game_of : IsGameOf d (coding_of d order) g
  is_game_of = record {
    valid = valid_is;
    turn = turn_is;
    stutter = λ v valid. told.stutter v;
    environment = environment_is;
    processes = processes_are;
    driver = driver_is;
    moves = moves_are;
    arguments = λ k other below. behind (get_or g.driver k other) (told.driver k other below);
  }

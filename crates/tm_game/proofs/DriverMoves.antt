-- The steps of the driver as moves of each design that has a game's guarded updates.
use Rattle.std.proofs.Common.{◌≡◌, ℕ, suc, ◌+◌, ◌<◌, ◌∷◌, Bool, true, cond, eqb, List, [], Option, None, Some, length, get_or, refl, sym, ap, ◌∙◌, subst, arith}
use Rattle.std.specs.Prelude.{◌↔◌, slice_index}
use Rattle.std.specs.Option.{option_map_or}
use Rattle.std.proofs.lemmas.Bool.{eq-eqb, eqb-true}
use Rattle.std.proofs.lemmas.List.{get_or_append_left, get_or-append-add, get_or_default, length-append, length-map}
use Rattle.std.proofs.lemmas.Option.{slice_get_within}
use Rattle.std.proofs.lemmas.Slice.Zip.{AllZip-long}
use Rattle.std.proofs.lemmas.List.FromFn.{length-range_with_len}
use Rattle.std.specs.List.{range_with_len}
use Rattle.tm_game_bits.specs.Inputs.{arguments_at}
use Rattle.tm_game_bits.specs.AssignedStates.{coding_of, state_of}
use Rattle.tm_game_bits.proofs.InputLevels.{are_bits}
use Rattle.tm_game_bits.specs.GameOf.{IsMoveAt, outcome_in}
use Rattle.tm_game_bits.proofs.Predecessors.{legal_is}
use Rattle.tm_dd.specs.declared.node.NodeId.{NodeId}
use Rattle.tm_dd.specs.Table.{Table, means}
use Rattle.tm_ddops.specs.Quantified.{AgreeElsewhere}
use Rattle.tm_flat.specs.Flat.{StepTerms, flat_terms}
use Rattle.tm_flat.specs.Inputs.{arguments_in}
use Rattle.tm_flat.specs.IsFlat.{step_from}
use Rattle.tm_flat.specs.Steps.{IsTaskStep, Tells, move_from}
use Rattle.tm_flat.proofs.Telling.{process_steps_tell, task_steps_tell}
use Rattle.tm_game_bits.specs.Diagrams.{IsSetOf, game_of, step_of}
use Rattle.tm_game_bits.specs.Forcing as bits
use Rattle.tm_game_bits.specs.Functions.{Assignment, StepFunctions, after}
use Rattle.tm_game_bits.specs.States.{ReadsState}
use Rattle.tm_game_bits.proofs.Choices.{chosen_among}
use Rattle.tm_game_bits.proofs.Sets.{IsSetOf-same}
use Rattle.tm_game.specs.declared.game.Game.TheInside.{Inside}
use Rattle.tm_game.specs.declared.moves.MoveShape.TheVariants as shapes
use Rattle.tm_game.specs.Game.{IsOf, in_set}
use Rattle.tm_game.specs.Inner.Good.{HasGoodLeaveBelow, IsGoodStep}
use Rattle.tm_game.specs.Layout.{IsGame, game_data}
use Rattle.tm_game.specs.Moves.{AreMoves, IsGoodMove, move_at}
use Rattle.tm_game.proofs.Designs.{coding_is, game_is}
use Rattle.tm_game.proofs.Shapes.{order_is}
use Rattle.tm_game.proofs.ToldGames.{from_told, idle_told, task_told}
use Rattle.tm_game_steps.specs.Setting.{setting_of}
use Rattle.tm_sem.specs.declared.state.Move.{Move}
use Rattle.tm_sem.specs.declared.state.Move.TheVariants as moves
use Rattle.tm_sem.specs.declared.state.Outcome.TheVariants.{Next, Error, NoOutcome}
use Rattle.tm_sem.specs.State.{StateData}
use Rattle.tm_sem.specs.Step.{IsState, Step, is_driver_move, is_driver_turn, task_of}
use Rattle.tm_sem.proofs.Turns.{at_turn}
use Rattle.tm_syntax.specs.Design.{DesignTree}
use Rattle.tm_term.specs.Value.{value_of}
use Rattle.tm_syntax.specs.Design.Cells.{Called}
use Rattle.tm_syntax.specs.Design.Locations.{is_magic_at}
use Rattle.tm_game_bits.specs.Told.{IsFrom, IsIdle, IsOfTask, argument_levels, choice_levels, inputs_at, stands_at}
use Rattle.tm_game_bits.proofs.Steps.{is_move, state_chosen}
use Rattle.tm_game_bits.proofs.Tables.{can_idle, idles_to, leaves_from, magic_is, magic_of, stands_within}
use Rattle.tm_game_bits.proofs.Tasks.{has_tasks}

moves_at : (p : ℕ) (b magic : Bool) → b ≡ magic →
    cond b (moves.Leave p) (moves.Process p) ≡ cond magic (moves.Leave p) (moves.Process p)
moves_at p b magic is = ap (λ (k : Bool). cond k (moves.Leave p) (moves.Process p)) is

module _ (a : Inside) (is : IsGame a) (d : DesignTree) (of : IsOf d (game_data a)) where
  -- ---- to idle
  pub idle_move : (step : StepFunctions) (v : Assignment) →
      IsIdle d a.order.items (game_of a.dd.table a.made.steps).turn step → IsState d (state_of d a.order.items v) →
      is_driver_turn d (state_of d a.order.items v) ≡ true →
      IsMoveAt d (coding_of d a.order.items) step moves.Idle v
  idle_move step v idle valid turn = record {
    outcomes = λ w chosen some. (
      [],
      subst (Step d (state_of d a.order.items v) moves.Idle []) (sym (leads w chosen))
          (can_idle d (state_of d a.order.items v) turn),
    );
    all = λ choices o some made. (
      v,
      λ k absent. refl,
      leads v (λ k absent. refl) ∙ sym (idles_to d (state_of d a.order.items v) choices o some made),
    );
  }
    where
      here : (w : Assignment) → AgreeElsewhere step.choices v w → w ≡ v
      here w chosen = λ i k. chosen k
          (λ there.
          let none : there.0 < length step.choices = there.1 in
          omega (arith, ap length idle.choices)) i

      leads : (w : Assignment) → AgreeElsewhere step.choices v w → outcome_in (coding_of d a.order.items) step w
          ≡ Next (record (state_of d a.order.items v) { last = 1 })
      leads w chosen =
          (λ i. cond (step.legal (here w chosen i)) (cond (step.error (here w chosen i)) Error
          (Next (state_of d a.order.items (after step.next (here w chosen i))))) NoOutcome)
          ∙ (λ i. cond ((idle.legal v ∙ (game_is a is d of).turn v valid ∙ turn) i) (cond (idle.error v i) Error
          (Next (idle.next v i))) NoOutcome)

  -- ---- to leave a magic block
  pub leave_move : (p k : ℕ) (step : StepFunctions) (v : Assignment) →
      IsFrom a.encoding.terms d a.order.items (flat_terms a.flat) true p k step →
      IsState d (state_of d a.order.items v) → stands_at d a.order.items p k v ≡ true →
      IsMoveAt d (coding_of d a.order.items) step (moves.Leave p) v
  leave_move p k step v from valid stands =
      let at = magic_is a.encoding.terms d (flat_terms a.flat) of.flat p k true from.0 in
      let place : slice_index (state_of d a.order.items v).places p ≡ k = eqb-true _ _ stands in
      let found = process_steps_tell a.encoding.terms d (flat_terms a.flat) of.flat (state_of d a.order.items v) p
      (arguments_at a.order.items v) valid at.inside (are_bits v (length a.order.items)) in
      let same : Some from.1 ≡ Some found.0 =
      sym from.2 ∙ ap (step_from (flat_terms a.flat) p) (sym place) ∙ found.1 in
      let terms : found.0 ≡ from.1 = cc in
      let is_this : move_from d p (slice_index (state_of d a.order.items v).places p) ≡ moves.Leave p =
      ap (move_from d p) place ∙ moves_at p (is_magic_at d p k) true at.is in
      is_move a.encoding.terms d a.order.items
      (order_is (setting_of a.encoding) (flat_terms a.flat) a.order.items is.shape d of.flat)
      (stands_at d a.order.items p k) [] from.1 step from.3 (moves.Leave p) v
      (λ w one. ap (λ (u : StateData). eqb (slice_index u.places p) k) one ∙ stands)
      (subst (λ (m : Move).
      Tells a.encoding.terms d from.1 (state_of d a.order.items v) m (arguments_at a.order.items v)) is_this
      (subst (λ (x : StepTerms).
      Tells a.encoding.terms d x (state_of d a.order.items v)
      (move_from d p (slice_index (state_of d a.order.items v).places p)) (arguments_at a.order.items v)) terms
      found.2))

  -- where such a step has an outcome its process stands there
  pub stands_there : (p k : ℕ) (step : StepFunctions) (v w : Assignment) →
      IsFrom a.encoding.terms d a.order.items (flat_terms a.flat) true p k step → AgreeElsewhere step.choices v w →
      step.legal w ≡ true → stands_at d a.order.items p k v ≡ true
  stands_there p k step v w from given legal =
      let chosen = chosen_among (choice_levels a.order.items) step.choices
      (λ u. value_of a.encoding.terms (inputs_at d a.order.items u)) from.1 from.3.choices v w given in
      ap (λ (u : StateData). eqb (slice_index u.places p) k)
      (sym (state_chosen a.encoding.terms d a.order.items
      (order_is (setting_of a.encoding) (flat_terms a.flat) a.order.items is.shape d of.flat) v w chosen))
      ∙ from.3.guarded w legal

  -- ---- to call a task
  pub call_move : (n : ℕ) (step : StepFunctions) (v : Assignment) →
      IsOfTask a.encoding.terms d a.order.items (flat_terms a.flat) n step → IsState d (state_of d a.order.items v) →
      IsMoveAt d (coding_of d a.order.items) step (move_at d a.order.items (shapes.Call n) v) v
  call_move n step v task valid =
      let below : n < length d.tasks =
      omega (
        arith,
        AllZip-long (IsTaskStep a.encoding.terms d) (range_with_len 0 (length d.tasks)) (flat_terms a.flat).tasks
            of.flat.tasks,
        length-range_with_len 0 (length d.tasks),
        slice_get_within (flat_terms a.flat).tasks n task.0 task.1,
      ) in
      let callee = has_tasks d of.design n below in
      let found = task_steps_tell a.encoding.terms d (flat_terms a.flat) of.flat (state_of d a.order.items v) n callee.0
      (arguments_at a.order.items v) valid callee.1 (are_bits v (length a.order.items)) in
      let same : Some task.0 ≡ Some found.0 = sym task.1 ∙ found.1 in
      let terms : found.0 ≡ task.0 = cc in
      let is_this : moves.Call n (arguments_in d callee.0.params (arguments_at a.order.items v))
      ≡ move_at d a.order.items (shapes.Call n) v =
      ap (λ o. option_map_or
      (λ (c : Called).
      moves.Call n (arguments_in d c.params (arguments_at a.order.items v))) o moves.Idle) (sym callee.1) in
      subst (λ (m : Move). IsMoveAt d (coding_of d a.order.items) step m v) is_this
      (is_move a.encoding.terms d a.order.items
      (order_is (setting_of a.encoding) (flat_terms a.flat) a.order.items is.shape d of.flat) (λ w. true)
      (argument_levels a.order.items) task.0 step task.2
      (moves.Call n (arguments_in d callee.0.params (arguments_at a.order.items v))) v (λ w one. refl)
      (subst (λ (x : StepTerms).
      Tells a.encoding.terms d x (state_of d a.order.items v)
      (moves.Call n (arguments_in d callee.0.params (arguments_at a.order.items v))) (arguments_at a.order.items v))
      terms found.2))

  pub call_drives : (n : ℕ) (v : Assignment) (o : Option Called) →
      is_driver_move (option_map_or (λ (c : Called).
      moves.Call n (arguments_in d c.params (arguments_at a.order.items v))) o moves.Idle) ≡ true
  call_drives n v None = refl
  call_drives n v (Some c) = refl

  -- ---- the steps, by number
  pub driver_idle : (e : StepFunctions) →
      get_or (game_of a.dd.table a.made.steps).driver 0 e ≡ is.steps.tells.idle
  driver_idle e = ap (λ (ds : List StepFunctions). get_or ds 0 e) is.steps.tells.driver

  pub driver_task : (n : ℕ) (e : StepFunctions) → n < length (flat_terms a.flat).tasks →
      get_or (game_of a.dd.table a.made.steps).driver (n + 1) e ≡ get_or is.steps.tells.tasks n e
  driver_task n e below =
      let behind : n + 1 ≡ suc n = omega arith in
      (λ i. get_or (is.steps.tells.driver i) (behind i) e)
      ∙ get_or_append_left is.steps.tells.tasks is.steps.tells.leaves e n
      (omega (arith, below, is.steps.tells.calls.long))

  pub driver_leave : (i : ℕ) (e : StepFunctions) →
      get_or (game_of a.dd.table a.made.steps).driver (length (flat_terms a.flat).tasks + 1 + i) e
      ≡ get_or is.steps.tells.leaves i e
  driver_leave i e =
      let behind : length (flat_terms a.flat).tasks + 1 + i ≡ length (is.steps.tells.idle ∷ is.steps.tells.tasks) + i =
      omega (arith, is.steps.tells.calls.long) in
      (λ j. get_or (is.steps.tells.driver j) (behind j) e)
      ∙ get_or-append-add (is.steps.tells.idle ∷ is.steps.tells.tasks) is.steps.tells.leaves i e

  -- ---- good moves
  module _ (set : NodeId) (reads : ReadsState (length a.order.items) (means a.dd.table set)) where
    -- a step that is a move is good exactly where the move is
    good_is : (v : Assignment) (step : StepFunctions) (move : Move) → is_driver_move move ≡ true →
        IsMoveAt d (coding_of d a.order.items) step move v →
        bits.IsLegalMove (game_of a.dd.table a.made.steps) (means a.dd.table set) step v
        ↔ IsGoodMove d (in_set d (game_data a) set) (state_of d a.order.items v) move
    good_is v step move drives at =
        let both = legal_is d (coding_of d a.order.items) (game_of a.dd.table a.made.steps) (coding_is a is d of)
        (game_is a is d of) (means a.dd.table set) reads v step move drives at in (
          λ h. let all = both.0 h in record { state = all.0; allowed = all.1; keeps = all.2 },
          λ h. both.1 (h.state, h.allowed, h.keeps),
        )

    pub idle_good : (v : Assignment) →
        bits.IsLegalMove (game_of a.dd.table a.made.steps) (means a.dd.table set) is.steps.tells.idle v
        ↔ IsGoodMove d (in_set d (game_data a) set) (state_of d a.order.items v) moves.Idle
    idle_good v =
        let idle = idle_told (setting_of a.encoding) (flat_terms a.flat) a.order.items is.shape is.terms d of.flat
        (game_of a.dd.table a.made.steps).turn is.steps.tells.idle is.steps.tells.idles in (
          λ h.
              let state = ((game_is a is d of).valid v).0 h.valid in
              let turn = sym ((game_is a is d of).turn v state) ∙ h.good.allowed.at_turn in
              (good_is v is.steps.tells.idle moves.Idle refl (idle_move is.steps.tells.idle v idle state turn)).0 h,
          λ h.
              let turn = at_turn d (state_of d a.order.items v) h.allowed.1 h.allowed.2 h.allowed.4 moves.Idle refl
              h.allowed.3 in
              (good_is v is.steps.tells.idle moves.Idle refl (idle_move is.steps.tells.idle v idle h.state turn)).1 h,
        )

    -- ---- calls
    pub call_good : (n : ℕ) (e : StepFunctions) → n < length (flat_terms a.flat).tasks → (v : Assignment) →
        bits.IsLegalMove (game_of a.dd.table a.made.steps) (means a.dd.table set) (get_or is.steps.tells.tasks n e) v
        ↔ IsGoodMove d (in_set d (game_data a) set) (state_of d a.order.items v)
        (move_at d a.order.items (shapes.Call n) v)
    call_good n e below v =
        let task = task_told (setting_of a.encoding) (flat_terms a.flat) a.order.items is.shape is.terms d of.flat n
        (get_or is.steps.tells.tasks n e) (is.steps.tells.calls.each n e below) in
        let good = λ (state : IsState d (state_of d a.order.items v)).
        good_is v (get_or is.steps.tells.tasks n e) (move_at d a.order.items (shapes.Call n) v)
        (call_drives n v (task_of d n)) (call_move n (get_or is.steps.tells.tasks n e) v task state) in (
          λ h. (good (((game_is a is d of).valid v).0 h.valid)).0 h,
          λ h. (good h.state).1 h,
        )

    -- ---- leaving a magic block
    pub leave_good_to : (p i : ℕ) (e : StepFunctions) → i < length is.steps.tells.leaves →
        get_or a.made.movers.items i 0 ≡ p → (v : Assignment) →
        bits.IsLegalMove (game_of a.dd.table a.made.steps) (means a.dd.table set) (get_or is.steps.tells.leaves i e) v →
        IsGoodMove d (in_set d (game_data a) set) (state_of d a.order.items v) (moves.Leave p)
    leave_good_to p i e below mover v h =
        let found = is.steps.tells.leaving.each i e below in
        let from = from_told (setting_of a.encoding) (flat_terms a.flat) a.order.items is.shape is.terms d of.flat true
        (get_or a.made.movers.items i 0) found.0 (get_or is.steps.tells.leaves i e) found.1 in
        let state = ((game_is a is d of).valid v).0 h.valid in
        let some = h.good.allowed.some in
        let stands = stands_there (get_or a.made.movers.items i 0) found.0 (get_or is.steps.tells.leaves i e) v some.0
        from some.1 some.2 in
        subst (λ (q : ℕ).
        IsGoodMove d (in_set d (game_data a) set) (state_of d a.order.items v) (moves.Leave q)) mover
        ((good_is v (get_or is.steps.tells.leaves i e) (moves.Leave (get_or a.made.movers.items i 0)) refl
        (leave_move (get_or a.made.movers.items i 0) found.0 (get_or is.steps.tells.leaves i e) v from state
        stands)).0 h)

    pub leave_good_from : (p : ℕ) (e : StepFunctions) (v : Assignment) →
        IsGoodMove d (in_set d (game_data a) set) (state_of d a.order.items v) (moves.Leave p) →
        (i : ℕ) × (i < length is.steps.tells.leaves) × (get_or a.made.movers.items i 0 ≡ p)
        × bits.IsLegalMove (game_of a.dd.table a.made.steps) (means a.dd.table set) (get_or is.steps.tells.leaves i e) v
    leave_good_from p e v h =
        let from = leaves_from d (state_of d a.order.items v) h.allowed.1 h.allowed.2 h.allowed.4 p h.allowed.3 in
        let magic = magic_of a.encoding.terms d (flat_terms a.flat) of.flat p
        (slice_index (state_of d a.order.items v).places p) from.0
        (stands_within d (state_of d a.order.items v) p h.state from.0)
        ∙ ap Some from.1 in
        let found = is.steps.tells.leaving.all p (slice_index (state_of d a.order.items v).places p) magic in
        let told = from_told (setting_of a.encoding) (flat_terms a.flat) a.order.items is.shape is.terms d of.flat true
        p (slice_index (state_of d a.order.items v).places p) (get_or is.steps.tells.leaves found.index e)
        (found.is e) in (
          found.index,
          found.below,
          found.mover,
          (good_is v (get_or is.steps.tells.leaves found.index e) (moves.Leave p) refl
              (leave_move p (slice_index (state_of d a.order.items v).places p)
              (get_or is.steps.tells.leaves found.index e) v told h.state (eq-eqb _ _ refl))).1 h,
        )

    -- ---- sets of moves
    module _ (t : Table) (id : NodeId) where
      pub idle_moves_told :
          IsSetOf t (IsGoodStep (game_of a.dd.table a.made.steps) (means a.dd.table set) 0) id →
          AreMoves d a.order.items t shapes.Idle (in_set d (game_data a) set) id
      idle_moves_told good =
          IsSetOf-same t (IsGoodStep (game_of a.dd.table a.made.steps) (means a.dd.table set) 0)
          (λ v. IsGoodMove d (in_set d (game_data a) set) (state_of d a.order.items v) moves.Idle) id
          (λ v h.
          (idle_good v).0
          (subst (λ (f : StepFunctions).
          bits.IsLegalMove (game_of a.dd.table a.made.steps) (means a.dd.table set) f v)
          (driver_idle is.steps.tells.idle) (h is.steps.tells.idle)))
          (λ v h e.
          subst (λ (f : StepFunctions).
          bits.IsLegalMove (game_of a.dd.table a.made.steps) (means a.dd.table set) f v) (sym (driver_idle e))
          ((idle_good v).1 h))
          good

      pub call_moves_told : (n : ℕ) → n < length (flat_terms a.flat).tasks →
          IsSetOf t (IsGoodStep (game_of a.dd.table a.made.steps) (means a.dd.table set) (n + 1)) id →
          AreMoves d a.order.items t (shapes.Call n) (in_set d (game_data a) set) id
      call_moves_told n below good =
          IsSetOf-same t (IsGoodStep (game_of a.dd.table a.made.steps) (means a.dd.table set) (n + 1))
          (λ v. IsGoodMove d (in_set d (game_data a) set) (state_of d a.order.items v)
          (move_at d a.order.items (shapes.Call n) v)) id
          (λ v h.
          (call_good n is.steps.tells.idle below v).0
          (subst (λ (f : StepFunctions).
          bits.IsLegalMove (game_of a.dd.table a.made.steps) (means a.dd.table set) f v)
          (driver_task n is.steps.tells.idle below) (h is.steps.tells.idle)))
          (λ v h e.
          subst (λ (f : StepFunctions).
          bits.IsLegalMove (game_of a.dd.table a.made.steps) (means a.dd.table set) f v) (sym (driver_task n e below))
          ((call_good n e below v).1 h))
          good

      pub leave_moves_told : (p : ℕ) →
          IsSetOf t
          (HasGoodLeaveBelow (game_of a.dd.table a.made.steps) (means a.dd.table set) a.made.movers.items
          (length (flat_terms a.flat).tasks + 1) p (length a.made.movers.items)) id →
          AreMoves d a.order.items t (shapes.Leave p) (in_set d (game_data a) set) id
      leave_moves_told p good =
          IsSetOf-same t
          (HasGoodLeaveBelow (game_of a.dd.table a.made.steps) (means a.dd.table set) a.made.movers.items
          (length (flat_terms a.flat).tasks + 1) p (length a.made.movers.items))
          (λ v. IsGoodMove d (in_set d (game_data a) set) (state_of d a.order.items v) (moves.Leave p)) id
          (λ v h.
          leave_good_to p h.0 is.steps.tells.idle (omega (arith, h.1, is.steps.tells.leaving.long)) h.2.0 v
          (subst (λ (f : StepFunctions).
          bits.IsLegalMove (game_of a.dd.table a.made.steps) (means a.dd.table set) f v)
          (driver_leave h.0 is.steps.tells.idle) (h.2.1 is.steps.tells.idle)))
          (λ v h.
          let found = leave_good_from p is.steps.tells.idle v h in (
            found.0,
            omega (arith, found.1, is.steps.tells.leaving.long),
            (
              found.2,
              λ e.
                  subst (λ (f : StepFunctions).
                  bits.IsLegalMove (game_of a.dd.table a.made.steps) (means a.dd.table set) f v)
                  (get_or_default is.steps.tells.leaves found.0 is.steps.tells.idle e found.1
                  ∙ sym (driver_leave found.0 e))
                  found.3,
            ),
          ))
          good

-- how many steps the driver has
pub driver_long : (a : Inside) (is : IsGame a) → length a.made.steps.driver.items
    ≡ length (flat_terms a.flat).tasks + 1 + length a.made.movers.items
driver_long a is =
    omega (
      arith,
      ap length is.steps.tells.driver,
      length-map a.made.steps.driver.items (step_of a.dd.table),
      length-append (is.steps.tells.idle ∷ is.steps.tells.tasks) is.steps.tells.leaves,
      is.steps.tells.calls.long,
      is.steps.tells.leaving.long,
    )

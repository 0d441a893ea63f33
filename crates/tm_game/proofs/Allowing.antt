-- Steps of the driver are allowed exactly where its moves are.
use Rattle.std.proofs.Common.{◌≡◌, ◌≢◌, ℕ, ◌+◌, ◌<◌, Bool, true, false, List, Some, length, get_or, refl, sym, ap, ◌∙◌, subst, eq-eqb, arith}
use Rattle.std.specs.Prelude.{◌↔◌, slice_index}
use Rattle.std.proofs.lemmas.List.{get_or_default}
use Rattle.tm_game_bits.specs.AssignedStates.{coding_of, state_of}
use Rattle.tm_game_bits.specs.GameOf.{IsMoveAt, outcome_in}
use Rattle.tm_game_bits.proofs.Moves.{legal_some, some_legal}
use Rattle.tm_flat.specs.Flat.{flat_terms}
use Rattle.tm_dd.specs.declared.node.NodeId.{NodeId}
use Rattle.tm_dd.specs.Table.{Table, assignment, means}
use Rattle.tm_game_bits.specs.Diagrams.{IsSetOf, game_of}
use Rattle.tm_game_bits.specs.Forcing as bits
use Rattle.tm_game_bits.specs.Functions.{Assignment, StepFunctions}
use Rattle.tm_game.specs.declared.game.Game.TheInside.{Inside}
use Rattle.tm_game.specs.declared.moves.MoveShape.TheVariants as shapes
use Rattle.tm_game.specs.Game.{IsOf}
use Rattle.tm_game.specs.Inner.Called.{AreArgumentBits, IsCallable}
use Rattle.tm_game.specs.Inner.Permitted.{HasPermittedLeaveBelow, IsPermitted}
use Rattle.tm_game.specs.Inner.Values.{AreValuesAt}
use Rattle.tm_game.specs.Layout.{IsGame, game_data}
use Rattle.tm_game.specs.Moves.{move_at}
use Rattle.tm_game.proofs.Calling.{call_given, callable}
use Rattle.tm_game.proofs.Designs.{game_is}
use Rattle.tm_game.proofs.DriverMoves.{call_drives, call_move, driver_idle, driver_leave, driver_task, idle_move, leave_move, stands_there}
use Rattle.tm_game.proofs.ToldGames.{from_told, idle_told, task_told}
use Rattle.tm_game_steps.specs.Setting.{setting_of}
use Rattle.tm_sem.specs.declared.state.Move.{Move}
use Rattle.tm_sem.specs.declared.state.Move.TheVariants as moves
use Rattle.tm_sem.specs.declared.state.Outcome.TheVariants.{NoOutcome}
use Rattle.tm_sem.specs.State.{StateData}
use Rattle.tm_sem.specs.Step.{IsAllowed, IsState, is_driver_move, is_driver_turn, task_of}
use Rattle.tm_sem.proofs.Turns.{at_turn}
use Rattle.tm_syntax.specs.Design.{DesignTree}
use Rattle.tm_game_bits.proofs.Tables.{leaves_from, magic_of, stands_within}

module _ (a : Inside) (is : IsGame a) (d : DesignTree) (of : IsOf d (game_data a)) (v : Assignment)
    (state : IsState d (state_of d a.order.items v)) where
  turn_is : (game_of a.dd.table a.made.steps).turn v ≡ is_driver_turn d (state_of d a.order.items v)
  turn_is = (game_is a is d of).turn v state

  -- it is the driver's turn where its moves are allowed
  turn_at : (move : Move) → IsAllowed d (state_of d a.order.items v) move →
      is_driver_turn d (state_of d a.order.items v) ≡ true
  turn_at move h = at_turn d (state_of d a.order.items v) h.1 h.2 h.4 move h.0 h.3

  -- a step that is a move is allowed exactly where the move is
  allowed_is : (step : StepFunctions) (move : Move) → is_driver_move move ≡ true →
      IsMoveAt d (coding_of d a.order.items) step move v →
      bits.IsAllowed (game_of a.dd.table a.made.steps).turn step v ↔ IsAllowed d (state_of d a.order.items v) move
  allowed_is step move drives at = (
    λ h.
        let some : outcome_in (coding_of d a.order.items) step h.some.0 ≢ NoOutcome =
        legal_some (coding_of d a.order.items) step h.some.0 h.some.2 in
        let led = at.outcomes h.some.0 h.some.1 some in
        (drives, led.0, outcome_in (coding_of d a.order.items) step h.some.0, led.1, some),
    λ h.
        let led = at.all h.1 h.2 h.4 h.3 in
        record {
          at_turn = turn_is ∙ turn_at move h;
          some = (
            led.0,
            led.1,
            some_legal (coding_of d a.order.items) step led.0 (λ none. h.4 (sym led.2 ∙ none)),
          );
        },
  )

  -- ---- to idle
  pub idle_permitted : IsPermitted (game_of a.dd.table a.made.steps) 0 v
      ↔ IsAllowed d (state_of d a.order.items v) moves.Idle
  idle_permitted =
      let idle = idle_told (setting_of a.encoding) (flat_terms a.flat) a.order.items is.shape is.terms d of.flat
      (game_of a.dd.table a.made.steps).turn is.steps.tells.idle is.steps.tells.idles in (
        λ h.
            let here = subst (λ (f : StepFunctions). bits.IsAllowed (game_of a.dd.table a.made.steps).turn f v)
            (driver_idle a is d of is.steps.tells.idle) (h is.steps.tells.idle) in
            (allowed_is is.steps.tells.idle moves.Idle refl
            (idle_move a is d of is.steps.tells.idle v idle state (sym turn_is ∙ here.at_turn))).0 here,
        λ h e.
            subst (λ (f : StepFunctions). bits.IsAllowed (game_of a.dd.table a.made.steps).turn f v)
            (sym (driver_idle a is d of e))
            ((allowed_is is.steps.tells.idle moves.Idle refl
            (idle_move a is d of is.steps.tells.idle v idle state (turn_at moves.Idle h))).1 h),
      )

  -- ---- to call a task
  pub call_permitted : (n : ℕ) → n < length (flat_terms a.flat).tasks →
      IsPermitted (game_of a.dd.table a.made.steps) (n + 1) v
      ↔ IsAllowed d (state_of d a.order.items v) (move_at d a.order.items (shapes.Call n) v)
  call_permitted n below = (
    λ h.
        (one is.steps.tells.idle).0
        (subst (λ (f : StepFunctions). bits.IsAllowed (game_of a.dd.table a.made.steps).turn f v)
        (driver_task a is d of n is.steps.tells.idle below) (h is.steps.tells.idle)),
    λ h e.
        subst (λ (f : StepFunctions). bits.IsAllowed (game_of a.dd.table a.made.steps).turn f v)
        (sym (driver_task a is d of n e below)) ((one e).1 h),
  )
    where
      one : (e : StepFunctions) →
          bits.IsAllowed (game_of a.dd.table a.made.steps).turn (get_or is.steps.tells.tasks n e) v
          ↔ IsAllowed d (state_of d a.order.items v) (move_at d a.order.items (shapes.Call n) v)
      one e =
          let task = task_told (setting_of a.encoding) (flat_terms a.flat) a.order.items is.shape is.terms d of.flat n
          (get_or is.steps.tells.tasks n e) (is.steps.tells.calls.each n e below) in
          allowed_is (get_or is.steps.tells.tasks n e) (move_at d a.order.items (shapes.Call n) v)
          (call_drives a is d of n v (task_of d n))
          (call_move a is d of n (get_or is.steps.tells.tasks n e) v task state)

  -- ---- to leave a magic block
  leave_to : (p i : ℕ) (e : StepFunctions) → i < length is.steps.tells.leaves → get_or a.made.movers.items i 0 ≡ p →
      bits.IsAllowed (game_of a.dd.table a.made.steps).turn (get_or is.steps.tells.leaves i e) v →
      IsAllowed d (state_of d a.order.items v) (moves.Leave p)
  leave_to p i e below mover h =
      let found = is.steps.tells.leaving.each i e below in
      let from = from_told (setting_of a.encoding) (flat_terms a.flat) a.order.items is.shape is.terms d of.flat true
      (get_or a.made.movers.items i 0) found.0 (get_or is.steps.tells.leaves i e) found.1 in
      let stands = stands_there a is d of (get_or a.made.movers.items i 0) found.0 (get_or is.steps.tells.leaves i e) v
      h.some.0 from h.some.1 h.some.2 in
      subst (λ (q : ℕ). IsAllowed d (state_of d a.order.items v) (moves.Leave q)) mover
      ((allowed_is (get_or is.steps.tells.leaves i e) (moves.Leave (get_or a.made.movers.items i 0)) refl
      (leave_move a is d of (get_or a.made.movers.items i 0) found.0 (get_or is.steps.tells.leaves i e) v from state
      stands)).0 h)

  leave_from : (p : ℕ) (e : StepFunctions) → IsAllowed d (state_of d a.order.items v) (moves.Leave p) →
      (i : ℕ) × (i < length is.steps.tells.leaves) × (get_or a.made.movers.items i 0 ≡ p)
      × bits.IsAllowed (game_of a.dd.table a.made.steps).turn (get_or is.steps.tells.leaves i e) v
  leave_from p e h =
      let from = leaves_from d (state_of d a.order.items v) h.1 h.2 h.4 p h.3 in
      let magic = magic_of a.encoding.terms d (flat_terms a.flat) of.flat p
      (slice_index (state_of d a.order.items v).places p) from.0
      (stands_within d (state_of d a.order.items v) p state from.0)
      ∙ ap Some from.1 in
      let found = is.steps.tells.leaving.all p (slice_index (state_of d a.order.items v).places p) magic in
      let told = from_told (setting_of a.encoding) (flat_terms a.flat) a.order.items is.shape is.terms d of.flat true p
      (slice_index (state_of d a.order.items v).places p) (get_or is.steps.tells.leaves found.index e) (found.is e) in (
        found.index,
        found.below,
        found.mover,
        (allowed_is (get_or is.steps.tells.leaves found.index e) (moves.Leave p) refl
            (leave_move a is d of p (slice_index (state_of d a.order.items v).places p)
            (get_or is.steps.tells.leaves found.index e) v told state (eq-eqb _ _ refl))).1 h,
      )

  pub leave_permitted : (p : ℕ) →
      HasPermittedLeaveBelow (game_of a.dd.table a.made.steps) a.made.movers.items
      (length (flat_terms a.flat).tasks + 1) p (length a.made.movers.items) v
      ↔ IsAllowed d (state_of d a.order.items v) (moves.Leave p)
  leave_permitted p = (
    λ h.
        leave_to p h.0 is.steps.tells.idle (omega (arith, h.1, is.steps.tells.leaving.long)) h.2.0
        (subst (λ (f : StepFunctions). bits.IsAllowed (game_of a.dd.table a.made.steps).turn f v)
        (driver_leave a is d of h.0 is.steps.tells.idle) (h.2.1 is.steps.tells.idle)),
    λ h.
        let found = leave_from p is.steps.tells.idle h in (
          found.0,
          omega (arith, found.1, is.steps.tells.leaving.long),
          (
            found.2,
            λ e.
                subst (λ (f : StepFunctions). bits.IsAllowed (game_of a.dd.table a.made.steps).turn f v)
                (get_or_default is.steps.tells.leaves found.0 is.steps.tells.idle e found.1
                ∙ sym (driver_leave a is d of found.0 e))
                found.3,
          ),
        ),
  )

-- ---- what a diagram is worth at values of levels that tell a state and arguments
module _ (a : Inside) (is : IsGame a) (d : DesignTree) (of : IsOf d (game_data a)) (s : StateData) (valid : IsState d s)
    (arguments values : List Bool) (at : AreValuesAt (game_data a) s arguments values) (t : Table) (id : NodeId)
    (yes : Bool) (worth : yes ≡ means t id (assignment values)) where
  same : state_of d a.order.items (assignment values) ≡ s
  same = at.state d of valid

  here : IsState d (state_of d a.order.items (assignment values))
  here = subst (IsState d) (sym same) valid

  -- it tells whether a move is allowed
  told_by : (P : Assignment → Type 0) (move : Move) → IsSetOf t P id →
      P (assignment values) ↔ IsAllowed d (state_of d a.order.items (assignment values)) move →
      (yes ≡ true) ↔ IsAllowed d s move
  told_by P move set tells = (
    λ h. subst (λ (r : StateData). IsAllowed d r move) same (tells.0 (set.only (assignment values) (sym worth ∙ h))),
    λ h.
        worth
        ∙ set.all (assignment values) (tells.1 (subst (λ (r : StateData). IsAllowed d r move) (sym same) h)),
  )

  pub idle_answer : IsSetOf t (IsPermitted (game_of a.dd.table a.made.steps) 0) id →
      (yes ≡ true) ↔ IsAllowed d s moves.Idle
  idle_answer set =
      told_by (IsPermitted (game_of a.dd.table a.made.steps) 0) moves.Idle set
      (idle_permitted a is d of (assignment values) here)

  pub leave_answer : (p first : ℕ) → first ≡ length (flat_terms a.flat).tasks + 1 →
      IsSetOf t (HasPermittedLeaveBelow (game_of a.dd.table a.made.steps) a.made.movers.items first p
      (length a.made.movers.items)) id → (yes ≡ true) ↔ IsAllowed d s (moves.Leave p)
  leave_answer p first count set =
      let Some : ℕ → Assignment → Type 0 =
      λ n. HasPermittedLeaveBelow (game_of a.dd.table a.made.steps) a.made.movers.items n p
      (length a.made.movers.items) in
      told_by (Some (length (flat_terms a.flat).tasks + 1)) (moves.Leave p)
      (subst (λ (n : ℕ). IsSetOf t (Some n) id) count set)
      (leave_permitted a is d of (assignment values) here p)

  pub call_answer : (n : ℕ) (args : List ℕ) → AreArgumentBits (flat_terms a.flat) n args arguments →
      IsSetOf t (IsPermitted (game_of a.dd.table a.made.steps) (n + 1)) id →
      (yes ≡ true) ↔ IsAllowed d s (moves.Call n args)
  call_answer n args bits set =
      let move = call_given a.encoding.terms d (flat_terms a.flat) of.flat of.room n args of.design a.order.items
      (assignment values) bits.callable
      (λ j small. at.given j small ∙ ap (λ bs. assignment bs j) bits.bits_are) in
      told_by (IsPermitted (game_of a.dd.table a.made.steps) (n + 1)) (moves.Call n args) set
      (subst
      (λ (m : Move). IsPermitted (game_of a.dd.table a.made.steps) (n + 1) (assignment values)
      ↔ IsAllowed d (state_of d a.order.items (assignment values)) m) move
      (call_permitted a is d of (assignment values) here n bits.callable.there))

-- a call that nobody can make is not allowed
pub no_call : (a : Inside) (d : DesignTree) → IsOf d (game_data a) → (s : StateData) (n : ℕ) (args : List ℕ) →
    ¬ IsCallable (flat_terms a.flat) n args → (false ≡ true) ↔ IsAllowed d s (moves.Call n args)
no_call a d of s n args never = (
  λ h. absurd (cc),
  λ h. absurd (never (callable a.encoding.terms d (flat_terms a.flat) of.flat of.room n args s h)),
)

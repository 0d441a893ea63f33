-- The sets of states that a game keeps are those of each design that has its guarded updates.
use Rattle.std.proofs.Common.{◌≡◌, ℕ, ◌<◌, Bool, true, false, List, length, get_or, refl, sym, ap, ◌∙◌, subst, arith}
use Rattle.std.specs.Prelude.{◌↔◌}
use Rattle.std.specs.List.{range_with_len}
use Rattle.std.proofs.lemmas.List.FromFn.{length-range_with_len}
use Rattle.std.proofs.lemmas.Option.{get_or_from_slice_get}
use Rattle.std.proofs.lemmas.Slice.Zip.{AllZip-long}
use Rattle.tm_game_bits.specs.Inputs.{arguments_at, choice_level, choices_at}
use Rattle.tm_game_bits.specs.AssignedStates.{state_of}
use Rattle.tm_game_bits.proofs.InputLevels.{are_bits, values_fit}
use Rattle.tm_game_bits.proofs.Coded.{state_told}
use Rattle.tm_base.specs.Arithmetic.{bit}
use Rattle.tm_dd.specs.declared.node.NodeId.{NodeId}
use Rattle.tm_dd.specs.Table.{means}
use Rattle.tm_ddops.specs.Quantified.{AgreeElsewhere}
use Rattle.tm_flat.specs.Flat.{flat_terms}
use Rattle.tm_flat.specs.Inputs.{AreBits, input_values, state_from}
use Rattle.tm_flat.specs.IsFlat.{IsFairTerm, IsGoalTerm, IsStateTerm}
use Rattle.tm_flat.proofs.Indices.{zipped_at}
use Rattle.tm_game_bits.specs.Diagrams.{IsSetOf}
use Rattle.tm_game_bits.specs.Functions.{Assignment}
use Rattle.tm_game_bits.proofs.Sets.{IsSetOf-same}
use Rattle.tm_game.specs.declared.game.Game.TheInside.{Inside}
use Rattle.tm_game.specs.Game.{IsOf, IsStates}
use Rattle.tm_game.specs.Layout.{IsGame, game_data}
use Rattle.tm_game.proofs.Designs.{game_is}
use Rattle.tm_game.proofs.Flats.{number_at}
use Rattle.tm_game.proofs.Shapes.{choices_are, order_is, values_are}
use Rattle.tm_game_steps.specs.Setting.{choices_of, setting_of, values_at}
use Rattle.tm_game_steps.specs.Sets.{IsAlwaysOneIn, IsOneIn}
use Rattle.tm_sem.specs.Fairness.{IsFair, conditions}
use Rattle.tm_sem.specs.Play.{goal_holds}
use Rattle.tm_sem.specs.State.{StateData}
use Rattle.tm_sem.specs.Step.{IsInitial, IsState, is_driver_turn}
use Rattle.tm_syntax.specs.Design.{DesignTree}
use Rattle.tm_term.specs.declared.term.TermId.{TermId}
use Rattle.tm_term.specs.Value.{value_of}
use Rattle.tm_game_bits.specs.Told.{choice_levels, inputs_at}
use Rattle.tm_game_bits.proofs.Bits.{bits_agree, range_within, with_bits, with_bits-are, with_bits-elsewhere}
use Rattle.tm_game_bits.proofs.Steps.{state_chosen}

bit_one : (b : Bool) → bit b ≡ 1 → b ≡ true
bit_one true is = refl
bit_one false is = absurd (omega arith)

module _ (a : Inside) (is : IsGame a) (d : DesignTree) (of : IsOf d (game_data a)) where
  valid_iff : (v : Assignment) →
      (means a.dd.table a.made.steps.valid v ≡ true) ↔ IsState d (state_of d a.order.items v)
  valid_iff = (game_is a is d of).valid

  -- a set of valid states
  pub states_so : (P : Assignment → Type 0) (IsSuch : StateData → Type 0) (node : NodeId) →
      IsSetOf a.dd.table (λ v. (means a.dd.table a.made.steps.valid v ≡ true) × P v) node →
      ((v : Assignment) → IsState d (state_of d a.order.items v) → P v ↔ IsSuch (state_of d a.order.items v)) →
      IsStates d a.order.items a.dd.table IsSuch node
  states_so P IsSuch node set same =
      IsSetOf-same a.dd.table (λ v. (means a.dd.table a.made.steps.valid v ≡ true) × P v)
      (λ v. IsState d (state_of d a.order.items v) × IsSuch (state_of d a.order.items v)) node
      (λ v h. let state = (valid_iff v).0 h.0 in (state, (same v state).0 h.1))
      (λ v h. ((valid_iff v).1 h.0, (same v h.0).1 h.1))
      set

  -- the value of a term at levels is its value at the inputs
  value_is : (v : Assignment) (id : TermId) → value_of a.encoding.terms (values_at (setting_of a.encoding) v) id
      ≡ value_of a.encoding.terms (inputs_at d a.order.items v) id
  value_is v id =
      ap (λ vs. value_of a.encoding.terms vs id)
      (values_are (setting_of a.encoding) (flat_terms a.flat) a.order.items is.shape d of.flat v)

  pub valid_told : IsStates d a.order.items a.dd.table (λ s. Unit {0}) a.made.steps.valid
  valid_told = record {
    known = is.steps.known.valid;
    only = λ v h. ((valid_iff v).0 h, tt);
    all = λ v h. (valid_iff v).1 h.0;
  }

  pub turn_told : IsStates d a.order.items a.dd.table (λ s. is_driver_turn d s ≡ true) a.kept.turn
  turn_told =
      states_so (λ v. means a.dd.table a.made.steps.turn v ≡ true) (λ s. is_driver_turn d s ≡ true) a.kept.turn
      is.kept.turn_is
      (λ v state.
      let same = (game_is a is d of).turn v state in (λ h. sym same ∙ h, λ h. same ∙ h))

  -- a term that tells such states
  state_term : (IsSuch : StateData → Type 0) (id : TermId) (v : Assignment) →
      IsStateTerm a.encoding.terms d IsSuch id →
      (value_of a.encoding.terms (values_at (setting_of a.encoding) v) id ≡ 1) ↔ IsSuch (state_of d a.order.items v)
  state_term IsSuch id v term =
      let order = order_is (setting_of a.encoding) (flat_terms a.flat) a.order.items is.shape d of.flat in
      let holds = term.holds (inputs_at d a.order.items v)
      (values_fit d a.order.items order a.encoding.terms of.flat.inputs v) in
      let told : state_from d (inputs_at d a.order.items v) ≡ state_of d a.order.items v =
      state_told d a.order.items order v (choices_at a.order.items v) (arguments_at a.order.items v) in (
        λ one. subst IsSuch told (holds.0 (sym (value_is v id) ∙ one)),
        λ such. value_is v id ∙ holds.1 (subst IsSuch (sym told) such),
      )

  pub initial_told : IsStates d a.order.items a.dd.table (IsInitial d) a.kept.initial
  initial_told =
      states_so
      (λ v. value_of a.encoding.terms (values_at (setting_of a.encoding) v) (flat_terms a.flat).initial ≡ 1)
      (IsInitial d) a.kept.initial is.kept.initial_is
      (λ v state. state_term (IsInitial d) (flat_terms a.flat).initial v of.flat.initial)

  -- ---- goals
  pub goals_count : length a.kept.goals.items ≡ length d.goals
  goals_count =
      is.kept.goals_are.long
      ∙ AllZip-long (IsGoalTerm a.encoding.terms d) (range_with_len 0 (length d.goals)) (flat_terms a.flat).goals
      of.flat.goals
      ∙ length-range_with_len 0 (length d.goals)

  pub goal_told : (j : ℕ) (e : NodeId) → j < length a.kept.goals.items →
      IsStates d a.order.items a.dd.table (λ s. goal_holds d s j ≡ true) (get_or a.kept.goals.items j e)
  goal_told j e below =
      let found = zipped_at (IsGoalTerm a.encoding.terms d) (range_with_len 0 (length d.goals))
      (flat_terms a.flat).goals of.flat.goals j
      (omega (arith, below, goals_count, length-range_with_len 0 (length d.goals))) in
      let this = number_at (length d.goals) j found.0 found.2 in
      let there = get_or_from_slice_get (flat_terms a.flat).goals j found.1 found.1 found.3 in
      let set = subst (λ (id : TermId).
      IsSetOf a.dd.table (IsOneIn (setting_of a.encoding) (means a.dd.table a.made.steps.valid) id)
      (get_or a.kept.goals.items j e)) there
      (is.kept.goals_are.each j found.1 e (omega (arith, below, is.kept.goals_are.long))) in
      states_so (λ v. value_of a.encoding.terms (values_at (setting_of a.encoding) v) found.1 ≡ 1)
      (λ s. goal_holds d s j ≡ true) (get_or a.kept.goals.items j e) set
      (λ v state.
      let holds = found.4.holds (state_of d a.order.items v) (choices_at a.order.items v)
      (arguments_at a.order.items v) state (are_bits v (choice_level a.order.items))
      (are_bits v (length a.order.items)) in
      let same : goal_holds d (state_of d a.order.items v) found.0 ≡ goal_holds d (state_of d a.order.items v) j =
      ap (goal_holds d (state_of d a.order.items v)) this in (
        λ one.
            sym same
            ∙ bit_one (goal_holds d (state_of d a.order.items v) found.0)
            (sym holds ∙ sym (value_is v found.1) ∙ one),
        λ true_there. value_is v found.1 ∙ holds ∙ ap bit (same ∙ true_there),
      ))

  -- ---- fairness conditions
  pub fairs_count : length a.kept.fairs.items ≡ length (conditions d)
  fairs_count =
      is.kept.fairs_are.long
      ∙ AllZip-long (IsFairTerm a.encoding.terms d) (range_with_len 0 (length (conditions d)))
      (flat_terms a.flat).fairs of.flat.fairs
      ∙ length-range_with_len 0 (length (conditions d))

  -- with other choices the inputs are those of the state with these choices
  chosen : (v w : Assignment) → AgreeElsewhere (choice_levels a.order.items) v w → inputs_at d a.order.items w
      ≡ input_values (state_of d a.order.items v) (choices_at a.order.items w) (arguments_at a.order.items v)
  chosen v w others =
      let order = order_is (setting_of a.encoding) (flat_terms a.flat) a.order.items is.shape d of.flat in
      let state = state_chosen a.encoding.terms d a.order.items order v w others in
      let arguments : arguments_at a.order.items w ≡ arguments_at a.order.items v =
      bits_agree w v (length a.order.items) Rattle.tm_flat.specs.Inputs.room
      (λ k above below.
      others k
      (λ there.
      let within = range_within (choice_level a.order.items) Rattle.tm_flat.specs.Inputs.room k there in
      omega (arith, within.0))) in
      λ i. input_values (state i) (choices_at a.order.items w) (arguments i)

  fair_iff : (j : ℕ) (id : TermId) → IsFairTerm a.encoding.terms d j id → (v : Assignment) →
      IsState d (state_of d a.order.items v) →
      ((w : Assignment) → AgreeElsewhere (choices_of (setting_of a.encoding)) v w →
      value_of a.encoding.terms (values_at (setting_of a.encoding) w) id ≡ 1)
      ↔ IsFair d (state_of d a.order.items v) j
  fair_iff j id term v state =
      let holds = term.holds (state_of d a.order.items v) (arguments_at a.order.items v) state
      (are_bits v (length a.order.items)) in
      let levels = choices_are (setting_of a.encoding) (flat_terms a.flat) a.order.items is.shape d of.flat in (
        λ all.
            holds.1
            (λ choices bits.
            let others = with_bits-elsewhere (choice_level a.order.items) choices v in
            let here = all (with_bits (choice_level a.order.items) choices v)
            (subst (λ (ls : List ℕ). AgreeElsewhere ls v (with_bits (choice_level a.order.items) choices v))
            (sym levels) others) in
            ap (λ cs.
            value_of a.encoding.terms
            (input_values (state_of d a.order.items v) cs (arguments_at a.order.items v)) id)
            (sym (with_bits-are (choice_level a.order.items) choices v bits))
            ∙ ap (λ vs. value_of a.encoding.terms vs id)
            (sym (chosen v (with_bits (choice_level a.order.items) choices v) others))
            ∙ sym (value_is (with_bits (choice_level a.order.items) choices v) id)
            ∙ here),
        λ fair w given.
            let others = subst (λ (ls : List ℕ). AgreeElsewhere ls v w) levels given in
            value_is w id
            ∙ ap (λ vs. value_of a.encoding.terms vs id) (chosen v w others)
            ∙ holds.0 fair (choices_at a.order.items w) (are_bits w (choice_level a.order.items)),
      )

  pub fair_told : (j : ℕ) (e : NodeId) → j < length a.kept.fairs.items →
      IsStates d a.order.items a.dd.table (λ s. IsFair d s j) (get_or a.kept.fairs.items j e)
  fair_told j e below =
      let found = zipped_at (IsFairTerm a.encoding.terms d) (range_with_len 0 (length (conditions d)))
      (flat_terms a.flat).fairs of.flat.fairs j
      (omega (arith, below, fairs_count, length-range_with_len 0 (length (conditions d)))) in
      let this = number_at (length (conditions d)) j found.0 found.2 in
      let there = get_or_from_slice_get (flat_terms a.flat).fairs j found.1 found.1 found.3 in
      let set = subst (λ (id : TermId).
      IsSetOf a.dd.table (IsAlwaysOneIn (setting_of a.encoding) (means a.dd.table a.made.steps.valid) id)
      (get_or a.kept.fairs.items j e)) there
      (is.kept.fairs_are.each j found.1 e (omega (arith, below, is.kept.fairs_are.long))) in
      let term = subst (λ (n : ℕ). IsFairTerm a.encoding.terms d n found.1) this found.4 in
      states_so
      (λ v.
      (w : Assignment) → AgreeElsewhere (choices_of (setting_of a.encoding)) v w →
      value_of a.encoding.terms (values_at (setting_of a.encoding) w) found.1 ≡ 1)
      (λ s. IsFair d s j) (get_or a.kept.fairs.items j e) set (λ v state. fair_iff j found.1 term v state)

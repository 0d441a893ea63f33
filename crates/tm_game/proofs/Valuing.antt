-- Values of levels tell the state and the arguments from which they are made.
use Rattle.std.proofs.Common.{◌≡◌, ℕ, ◌+◌, ◌-◌, ◌<◌, ◌≤◌, ◌==◌, Bool, true, false, List, [], ◌∷◌, ◌++◌, Some, length, get_or, map, refl, sym, ap, ◌∙◌, arith}
use Rattle.std.specs.Prelude.{sum}
use Rattle.std.specs.List.{AllZip, range_with_len}
use Rattle.std.proofs.lemmas.List.{get_or_append_left, get_or-append-add, get_or-map, length-append, length-map}
use Rattle.std.proofs.lemmas.List.FromFn.{get_or-map-range_with_len, length-map-range_with_len}
use Rattle.std.proofs.lemmas.List.Sums.{sum_by-cons}
use Rattle.tm_game_bits.specs.Inputs.{arguments_at}
use Rattle.tm_game_bits.specs.AssignedStates.{assignment_of, numbers_from, state_of}
use Rattle.tm_game_bits.proofs.Numbers.{Fits, numbers_agree, numbers_back}
use Rattle.tm_base.specs.Arithmetic.{bit}
use Rattle.tm_dd.specs.Table.{assignment}
use Rattle.tm_flat.specs.BitRun.{number_at}
use Rattle.tm_flat.specs.Fitting.{ArgumentsFit}
use Rattle.tm_flat.specs.Flat.{flat_terms}
use Rattle.tm_flat.specs.Inputs.{room, arguments_from, arguments_in, bits_in, parameter_widths}
use Rattle.tm_game_bits.specs.Functions.{Assignment}
use Rattle.tm_game.specs.declared.game.Game.TheInside.{Inside}
use Rattle.tm_game.specs.Game.{IsOf}
use Rattle.tm_game.specs.Inner.Valued.{level_values}
use Rattle.tm_game.specs.Inner.Values.{AreValuesAt}
use Rattle.tm_game.specs.Layout.{IsGame, game_data}
use Rattle.tm_game.specs.Shape.{state_widths_in}
use Rattle.tm_game.proofs.Designs.{coding_is}
use Rattle.tm_game.proofs.Shapes.{widths_are}
use Rattle.tm_game_steps.specs.Setting.{setting_of}
use Rattle.tm_sem.specs.Run.{asked_by}
use Rattle.tm_sem.specs.State.{StateData}
use Rattle.tm_sem.specs.StateBits.{bits_of_numbers, state_numbers}
use Rattle.tm_sem.specs.Step.{IsState}
use Rattle.tm_syntax.specs.Design.{DesignTree}
use Rattle.tm_syntax.specs.Design.Cells.{Cell}
use Rattle.tm_syntax.specs.Design.Sizes.{type_bits}

-- ---- the list of values
module _ (order : List ℕ) (state arguments : List Bool) (count : ℕ) where
  -- those of the levels of a state
  pub value_of_state : (k : ℕ) → k < length order →
      assignment (level_values order state arguments count) k ≡ assignment state (get_or order k (length order))
  value_of_state k below =
      get_or_append_left (map (assignment state) order)
      (map (assignment arguments) (range_with_len 0 64)
      ++ map (assignment []) (range_with_len 0 (count - length order - 64))) false k
      (omega (arith, length-map order (assignment state)))
      ∙ get_or-map (assignment state) order k (length order) false below

  -- those of the levels of arguments
  pub value_of_argument : (j : ℕ) → j < 64 →
      assignment (level_values order state arguments count) (length order + j) ≡ assignment arguments j
  value_of_argument j below =
      let long = length-map order (assignment state) in
      ap (λ n. assignment (level_values order state arguments count) (n + j)) (sym long)
      ∙ get_or-append-add (map (assignment state) order)
      (map (assignment arguments) (range_with_len 0 64)
      ++ map (assignment []) (range_with_len 0 (count - length order - 64))) j false
      ∙ get_or_append_left (map (assignment arguments) (range_with_len 0 64))
      (map (assignment []) (range_with_len 0 (count - length order - 64))) false j
      (omega (arith, length-map-range_with_len (assignment arguments) 0 64))
      ∙ get_or-map-range_with_len (assignment arguments) 0 64 j j false below (omega arith)

  pub values_long : length order + 64 ≤ count → length (level_values order state arguments count) ≡ count
  values_long enough =
      omega (
        arith,
        length-append (map (assignment state) order) (map (assignment arguments) (range_with_len 0 64)
            ++ map (assignment []) (range_with_len 0 (count - length order - 64))),
        length-append (map (assignment arguments) (range_with_len 0 64))
            (map (assignment []) (range_with_len 0 (count - length order - 64))),
        length-map order (assignment state),
        length-map-range_with_len (assignment arguments) 0 64,
        length-map-range_with_len (assignment []) 0 (count - length order - 64),
      )

-- ---- of a game
pub values_told : (a : Inside) → IsGame a → (s : StateData) (arguments values : List Bool) →
    values ≡ level_values a.order.items
    (bits_of_numbers (state_widths_in (setting_of a.encoding) (flat_terms a.flat)) (state_numbers s)) arguments
    a.dd.table.levels → AreValuesAt (game_data a) s arguments values
values_told a is s arguments values are = record {
  long = ap length are ∙ values_long a.order.items
      (bits_of_numbers (state_widths_in (setting_of a.encoding) (flat_terms a.flat)) (state_numbers s)) arguments
      a.dd.table.levels (omega (arith, is.levels));
  state = state;
  given = λ j below.
      ap (λ (vs : List Bool). assignment vs (length a.order.items + j)) are
      ∙ value_of_argument a.order.items
      (bits_of_numbers (state_widths_in (setting_of a.encoding) (flat_terms a.flat)) (state_numbers s)) arguments
      a.dd.table.levels j below;
}
  where
    state : (d : DesignTree) → IsOf d (game_data a) → IsState d s → state_of d a.order.items (assignment values) ≡ s
    state d of valid =
        let widths = widths_are (setting_of a.encoding) (flat_terms a.flat) a.order.items is.shape d of.flat in
        (coding_is a is d of).same (assignment values) (assignment_of d a.order.items s)
        (λ k below.
        ap (λ (vs : List Bool). assignment vs k) are
        ∙ value_of_state a.order.items
        (bits_of_numbers (state_widths_in (setting_of a.encoding) (flat_terms a.flat)) (state_numbers s)) arguments
        a.dd.table.levels k below
        ∙ ap (λ ws. assignment (bits_of_numbers ws (state_numbers s))
        (get_or a.order.items k (length a.order.items))) widths)
        ∙ (coding_is a is d of).back s valid

-- ---- arguments
module _ (d : DesignTree) where
  -- arguments are numbers of the widths of their parameters
  arguments_are : (params : List Cell) (bits : ℕ → Bool) (k : ℕ) →
      arguments_from d params bits k ≡ numbers_from (parameter_widths d params) bits k
  arguments_are [] bits k = refl
  arguments_are (c ∷ cs) bits k =
      ap (λ ns. number_at bits k (type_bits d.spec (asked_by d (Some c))) ∷ ns)
      (arguments_are cs bits (k + type_bits d.spec (asked_by d (Some c))))

  -- they have no more bits than there is room for
  pub widths_fit : (params : List Cell) (k : ℕ) → ArgumentsFit room d params k →
      k + sum (parameter_widths d params) ≤ room
  widths_fit [] k fits = omega (arith, fits)
  widths_fit (c ∷ cs) k fits =
      omega (
        arith,
        widths_fit cs (k + type_bits d.spec (asked_by d (Some c))) fits.1,
        sum_by-cons (λ x. x) (type_bits d.spec (asked_by d (Some c))) (parameter_widths d cs),
      )

  -- values of levels that give the bits of arguments give the arguments
  pub arguments_given : (order : List ℕ) (params : List Cell) (args : List ℕ) (v : Assignment) →
      ArgumentsFit room d params 0 → AllZip Fits (parameter_widths d params) args →
      ((j : ℕ) → j < 64 → v (length order + j) ≡ assignment (bits_of_numbers (parameter_widths d params) args) j) →
      arguments_in d params (arguments_at order v) ≡ args
  unfolding room
  arguments_given order params args v fits fit given =
      arguments_are params (bits_in (arguments_at order v)) 0
      ∙ numbers_agree (parameter_widths d params) (bits_in (arguments_at order v))
      (assignment (bits_of_numbers (parameter_widths d params) args)) 0
      (λ q above below.
      let small : q < 64 = omega (arith, widths_fit params 0 fits) in
      ap (λ n. n == 1) (get_or-map-range_with_len (λ k. bit (v k)) (length order) 64 q (length order + q) 0 small refl)
      ∙ bit_is (v (length order + q))
      ∙ given q small)
      ∙ numbers_back [] (parameter_widths d params) args fit
    where
      bit_is : (b : Bool) → (bit b == 1) ≡ b
      bit_is true = refl
      bit_is false = refl

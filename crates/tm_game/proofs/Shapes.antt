-- What the levels of inputs tell, where guarded updates are those of a design.
use Rattle.std.proofs.Common.{◌≡◌, ℕ, ◌+◌, ◌-◌, ◌<◌, ◌≤◌, ◌==◌, List, [], ◌∷◌, ◌++◌, length, get_or, map, take, drop, replicate, sym, ap, ◌∙◌, subst, append_assoc, arith}
use Rattle.std.specs.Prelude.{sum}
use Rattle.std.specs.List.{AllZip, range_with_len}
use Rattle.std.proofs.lemmas.List.{drop_at, get_or_append_left, get_or_at, length-append, length-drop, length-map, length-replicate, length-take-le, take-append-le, take-map, take_all, take_at}
use Rattle.std.proofs.lemmas.List.FromFn.{length-range_with_len}
use Rattle.std.proofs.lemmas.Slice.Zip.{AllZip-long}
use Rattle.tm_game_bits.specs.Inputs.{arguments_at, choices_at, input_levels}
use Rattle.tm_game_bits.specs.AssignedStates.{bits_by_place, numbers_from, state_of}
use Rattle.tm_game_bits.proofs.Coded.{numbers_tell, numbers_told}
use Rattle.tm_game_bits.proofs.InputLevels.{values_told}
use Rattle.tm_game_bits.proofs.Numbers.{length-numbers_from}
use Rattle.tm_base.specs.Bits.{number_of}
use Rattle.tm_blast.specs.Bits as blasted
use Rattle.tm_flat.specs.Flat.{FlatTerms}
use Rattle.tm_flat.specs.Inputs.{room, state_from}
use Rattle.tm_flat.specs.IsFlat.{IsFlat, location_numbers, process_numbers}
use Rattle.tm_flat.specs.Steps.{IsProcessStep}
use Rattle.tm_game_bits.specs.Functions.{Assignment}
use Rattle.tm_game.specs.Shape.{IsShape, state_widths_in}
use Rattle.tm_game_bits.specs.Order.{IsOrder}
use Rattle.tm_game_steps.specs.Setting.{Setting, choices_of, arguments_of, has_value, values_at}
use Rattle.tm_sem.specs.State.{StateData}
use Rattle.tm_sem.specs.StateBits.{state_numbers, state_widths}
use Rattle.tm_syntax.specs.declared.design.Var.{Var}
use Rattle.tm_syntax.specs.Design.{DesignTree}
use Rattle.tm_syntax.specs.Design.Locations.{end_number}
use Rattle.tm_syntax.specs.Design.Sizes.{bits_of_number, type_bits}
use Rattle.tm_game_bits.specs.Told.{argument_levels, choice_levels, inputs_at, stands_at}

-- ---- states
pub length-state_widths : (d : DesignTree) → length (state_widths d) ≡ length d.vars + (length d.processes + 1)
length-state_widths d =
    omega (
      arith,
      length-append (map (λ (v : Var). type_bits d.spec v.ty) d.vars
          ++ map (λ p. bits_of_number (end_number d p)) (range_with_len 0 (length d.processes)))
          (bits_of_number (1 + length d.processes) ∷ []),
      length-append (map (λ (v : Var). type_bits d.spec v.ty) d.vars)
          (map (λ p. bits_of_number (end_number d p)) (range_with_len 0 (length d.processes))),
      length-map d.vars (λ (v : Var). type_bits d.spec v.ty),
      length-map (range_with_len 0 (length d.processes)) (λ p. bits_of_number (end_number d p)),
      length-range_with_len 0 (length d.processes),
    )

-- the state that the numbers of a state tell
pub state_of_numbers : (d : DesignTree) (s : StateData) → length s.values ≡ length d.vars →
    length s.places ≡ length d.processes → state_from d (state_numbers s) ≡ s
state_of_numbers d s vars processes =
    λ i. record { values = values i; places = places i; last = last i }
  where
    assoc : state_numbers s ≡ s.values ++ (s.places ++ s.last ∷ [])
    assoc = append_assoc s.values s.places (s.last ∷ [])

    values : take (length d.vars) (state_numbers s) ≡ s.values
    values =
        ap (take (length d.vars)) assoc ∙ take_at s.values (s.places ++ s.last ∷ []) (length d.vars) vars

    places : take (length d.processes) (drop (length d.vars) (state_numbers s)) ≡ s.places
    places =
        ap (λ xs. take (length d.processes) (drop (length d.vars) xs)) assoc
        ∙ ap (take (length d.processes)) (drop_at s.values (s.places ++ s.last ∷ []) (length d.vars) vars)
        ∙ take_at s.places (s.last ∷ []) (length d.processes) processes

    last : get_or (state_numbers s) (length d.vars + length d.processes) 0 ≡ s.last
    last =
        get_or_at (s.values ++ s.places) s.last [] 0 (length d.vars + length d.processes)
        (omega (arith, length-append s.values s.places))

module _ (x : Setting) (f : FlatTerms) (order : List ℕ) (shape : IsShape x f order) (d : DesignTree)
    (flat : IsFlat x.terms d f) where
  -- ---- counts
  pub count_widths : length (state_widths d) ≡ x.numbers
  count_widths =
      omega (
        arith,
        shape.widths,
        ap length flat.widths,
        length-append (state_widths d ++ replicate room 1) (replicate room 1),
        length-append (state_widths d) (replicate room 1),
        length-replicate {A = ℕ} room 1,
      )

  pub widths_are : state_widths_in x f ≡ state_widths d
  widths_are =
      ap (take x.numbers) flat.widths
      ∙ take-append-le x.numbers (state_widths d ++ replicate room 1) (replicate room 1)
      (omega (arith, count_widths, length-append (state_widths d) (replicate room 1)))
      ∙ take_at (state_widths d) (replicate room 1) x.numbers count_widths

  pub processes_long : length f.processes ≡ length d.processes
  processes_long =
      AllZip-long (λ p steps. AllZip (IsProcessStep x.terms d p) (location_numbers d p) steps) (process_numbers d)
      f.processes flat.processes
      ∙ length-range_with_len 0 (length d.processes)

  pub first_is : x.first ≡ length d.vars
  first_is = omega (arith, shape.numbers, count_widths, length-state_widths d, processes_long)

  pub order_is : IsOrder (sum (state_widths d)) order
  order_is = subst (λ (ws : List ℕ). IsOrder (sum ws) order) widths_are shape.permutes

  pub levels_are : x.levels ≡ input_levels order (state_widths d)
  levels_are = shape.levels ∙ ap (input_levels order) widths_are

  -- ---- levels
  pub choices_are : choices_of x ≡ choice_levels order
  choices_are = ap (λ k. range_with_len (k + room) room) shape.count

  pub arguments_are : arguments_of x ≡ argument_levels order
  arguments_are = ap (λ k. range_with_len k room) shape.count

  -- ---- values
  pub values_are : (v : Assignment) → values_at x v ≡ inputs_at d order v
  values_are v = ap (λ ls. blasted.input_values ls v) levels_are ∙ values_told d order order_is v

  -- the numbers that values of levels tell
  abbrev numbers : Assignment → List ℕ
  numbers v = numbers_from (state_widths d) (bits_by_place order v) 0

  long : (v : Assignment) → length (numbers v) ≡ x.numbers
  long v = length-numbers_from (state_widths d) (bits_by_place order v) 0 ∙ count_widths

  pub first_values : (v : Assignment) → take x.numbers (values_at x v) ≡ state_numbers (state_of d order v)
  first_values v =
      ap (take x.numbers) (values_are v)
      ∙ take-append-le x.numbers (state_numbers (state_of d order v) ++ choices_at order v) (arguments_at order v)
      (omega (arith, count v, length-append (state_numbers (state_of d order v)) (choices_at order v)))
      ∙ take_at (state_numbers (state_of d order v)) (choices_at order v) x.numbers (count v)
    where
      count : (w : Assignment) → length (state_numbers (state_of d order w)) ≡ x.numbers
      count w = ap length (numbers_told d order order_is w) ∙ long w

  pub state_values : (v : Assignment) → blasted.input_values (take x.numbers x.levels) v
      ≡ state_numbers (state_of d order v)
  state_values v =
      sym (take-map (λ (bits : List ℕ). number_of (map v bits)) x.numbers x.levels) ∙ first_values v

  pub values_long : (v : Assignment) → length (state_of d order v).values ≡ length d.vars
  values_long v =
      length-take-le (length d.vars) (numbers v)
      (omega (arith, long v, count_widths, length-state_widths d))

  pub places_long : (v : Assignment) → length (state_of d order v).places ≡ length d.processes
  places_long v =
      length-take-le (length d.processes) (drop (length d.vars) (numbers v))
      (omega (arith, long v, count_widths, length-state_widths d, length-drop (length d.vars) (numbers v)))

  -- where a process stands
  pub place_is : (v : Assignment) (p : ℕ) → p < length d.processes →
      get_or (values_at x v) (x.first + p) 0 ≡ get_or (state_of d order v).places p 0
  place_is v p inside =
      let before : get_or (values_at x v) (x.first + p) 0
      ≡ get_or (state_numbers (state_of d order v)) (length d.vars + p) 0 =
      sym (Rattle.std.proofs.lemmas.List.get_or-take x.numbers (values_at x v) (x.first + p) 0
      (omega (arith, shape.numbers, processes_long)))
      ∙ (λ i. get_or (first_values v i) (first_is i + p) 0) in
      before ∙ numbered (state_of d order v).values (state_of d order v).places (state_of d order v).last p
      (values_long v) (omega (arith, places_long v, inside))
    where
      numbered : (xs ys : List ℕ) (l q : ℕ) → length xs ≡ length d.vars → q < length ys →
          get_or (xs ++ ys ++ l ∷ []) (length d.vars + q) 0 ≡ get_or ys q 0
      numbered xs ys l q count below =
          get_or_append_left (xs ++ ys) (l ∷ []) 0 (length d.vars + q) (omega (arith, length-append xs ys))
          ∙ ap (λ n. get_or (xs ++ ys) (n + q) 0) (sym count)
          ∙ Rattle.std.proofs.lemmas.List.get_or-append-add xs ys q 0

  pub stands_is : (v : Assignment) (p k : ℕ) → p < length d.processes →
      has_value (x.first + p) k (values_at x v) ≡ stands_at d order p k v
  stands_is v p k inside = ap (λ n. n == k) (place_is v p inside)

  -- a state whose numbers are those of another one, but for the last
  pub passes_told : (last : ℕ) (v w : Assignment) →
      blasted.input_values (take x.numbers x.levels) w ≡ take (x.numbers - 1) (values_at x v) ++ last ∷ [] →
      state_of d order w ≡ record (state_of d order v) { last = last }
  passes_told last v w told =
      sym (numbers_tell d order order_is w)
      ∙ ap (state_from d) (sym (state_values w) ∙ told ∙ ap (λ xs. xs ++ last ∷ []) front)
      ∙ state_of_numbers d (record (state_of d order v) { last = last }) (values_long v) (places_long v)
    where
      front : take (x.numbers - 1) (values_at x v) ≡ (state_of d order v).values ++ (state_of d order v).places
      front =
          let count : length ((state_of d order v).values ++ (state_of d order v).places) ≡ x.numbers - 1 =
          omega (
            arith,
            length-append (state_of d order v).values (state_of d order v).places,
            values_long v,
            places_long v,
            count_widths,
            length-state_widths d,
          ) in
          let less : x.numbers - 1 ≤ x.numbers = omega arith in
          sym (Rattle.std.proofs.lemmas.List.take-take (x.numbers - 1) x.numbers (values_at x v) less)
          ∙ ap (take (x.numbers - 1)) (first_values v)
          ∙ take_at ((state_of d order v).values ++ (state_of d order v).places) ((state_of d order v).last ∷ [])
          (x.numbers - 1) count

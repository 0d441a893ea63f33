-- States are told by the values of their levels.
use Rattle.std.proofs.Common.{◌≡◌, ℕ, ◌+◌, ◌^◌, ◌<◌, ◌≤◌, Bool, false, List, [], ◌∷◌, ◌++◌, length, get_or, map, take, drop, replicate, inl, inr, refl, sym, ap, ◌∙◌, subst, append_assoc, arith}
use Rattle.std.specs.Prelude.{sum}
use Rattle.std.specs.List.{AllZip, range_with_len}
use Rattle.std.proofs.lemmas.List.{drop_all, drop_at, drop-drop, drop_more, drop-append-le, get_or_append_left, get_or_at, get_or_default, get_or_past, get_or-replicate, length-append, length-drop, length-map, length-replicate, take-append-drop, take-append-le, take_at}
use Rattle.std.proofs.lemmas.List.FromFn.{get_or-map-range_with_len, length-range_with_len}
use Rattle.std.proofs.lemmas.Bool.{cases_lt}
use Rattle.std.proofs.lemmas.Slice.Zip.{AllZip-long}
use Rattle.tm_syntax.specs.declared.design.Var.{Var}
use Rattle.tm_syntax.specs.Design.{DesignTree}
use Rattle.tm_syntax.specs.Design.Locations.{end_number}
use Rattle.tm_syntax.specs.Design.Sizes.{bits_of_number, type_bits, type_size}
use Rattle.tm_term.specs.Table.{Table}
use Rattle.tm_sem.specs.State.{StateData}
use Rattle.tm_sem.specs.StateBits.{bits_of_numbers, state_bits, state_numbers, state_widths}
use Rattle.tm_sem.specs.Step.{IsState}
use Rattle.tm_flat.specs.Inputs.{room, AreBits, AreSmall, input_values, input_widths, state_from}
use Rattle.tm_flat.proofs.Ranges.{are_inputs}
use Rattle.tm_game_bits.specs.States.{AreOneState}
use Rattle.tm_game_bits.specs.Coding.{IsCoding}
use Rattle.tm_game_bits.specs.Order.{IsOrder, level_in}
use Rattle.tm_game_bits.proofs.Orders.{level_back, level_of_place, order_below}
use Rattle.tm_game_bits.specs.AssignedStates.{assignment_of, bits_by_place, coding_of, numbers_from, state_of}
use Rattle.tm_game_bits.proofs.Numbers.{Fits, bits_of-numbers_from, fits_by_index, length-numbers_from, numbers_agree, numbers_back}

-- ---- numbers and states
length-state_widths : (d : DesignTree) → length (state_widths d) ≡ length d.vars + (length d.processes + 1)
length-state_widths d =
    let vars = map (λ (v : Var). type_bits d.spec v.ty) d.vars in
    let places = map (λ p. bits_of_number (end_number d p)) (range_with_len 0 (length d.processes)) in
    omega (
      arith,
      length-append (map (λ (v : Var). type_bits d.spec v.ty) d.vars
          ++ map (λ p. bits_of_number (end_number d p)) (range_with_len 0 (length d.processes)))
          (bits_of_number (1 + length d.processes) ∷ []),
      length-append (map (λ (v : Var). type_bits d.spec v.ty) d.vars)
          (map (λ p. bits_of_number (end_number d p)) (range_with_len 0 (length d.processes))),
      length-map d.vars (λ (v : Var). type_bits d.spec v.ty),
      length-map (range_with_len 0 (length d.processes)) (λ p. bits_of_number (end_number d p)),
      length-range_with_len 0 (length d.processes),
    )

-- the numbers of the state that numbers tell
numbers_of_state : (v p : ℕ) (xs : List ℕ) → length xs ≡ v + (p + 1) →
    (take v xs ++ take p (drop v xs)) ++ get_or xs (v + p) 0 ∷ [] ≡ xs
numbers_of_state v p xs long =
    let last : drop (v + p) xs ≡ get_or xs (v + p) 0 ∷ [] =
    drop_more xs (v + p) 0 (omega arith)
    ∙ ap (λ ys. get_or xs (v + p) 0 ∷ ys) (drop_all (v + p + 1) xs (omega arith)) in
    append_assoc (take v xs) (take p (drop v xs)) (get_or xs (v + p) 0 ∷ [])
    ∙ ap (λ ys. take v xs ++ (take p (drop v xs) ++ ys)) (sym last ∙ sym (drop-drop p v xs))
    ∙ ap (λ ys. take v xs ++ ys) (take-append-drop p (drop v xs))
    ∙ take-append-drop v xs

-- the state that the numbers of a state tell
state_of_numbers : (d : DesignTree) (s : StateData) → length s.values ≡ length d.vars →
    length s.places ≡ length d.processes → state_from d (state_numbers s) ≡ s
state_of_numbers d s vars processes =
    λ i. record { values = values i; places = places i; last = last i }
  where
    assoc : state_numbers s ≡ s.values ++ (s.places ++ s.last ∷ [])
    assoc = append_assoc s.values s.places (s.last ∷ [])

    values : take (length d.vars) (state_numbers s) ≡ s.values
    values =
        ap (take (length d.vars)) assoc ∙ take_at s.values (s.places ++ s.last ∷ []) (length d.vars) vars

    places : take (length d.processes) (drop (length d.vars) (state_numbers s)) ≡ s.places
    places =
        ap (λ xs. take (length d.processes) (drop (length d.vars) xs)) assoc
        ∙ ap (take (length d.processes)) (drop_at s.values (s.places ++ s.last ∷ []) (length d.vars) vars)
        ∙ take_at s.places (s.last ∷ []) (length d.processes) processes

    last : get_or (state_numbers s) (length d.vars + length d.processes) 0 ≡ s.last
    last =
        get_or_at (s.values ++ s.places) s.last [] 0 (length d.vars + length d.processes)
        (omega (arith, length-append s.values s.places))

-- further numbers behind those of a state change nothing
state_from-append : (d : DesignTree) (xs ys : List ℕ) → length xs ≡ length d.vars + (length d.processes + 1) →
    state_from d (xs ++ ys) ≡ state_from d xs
state_from-append d xs ys long = λ i. record { values = values i; places = places i; last = last i }
  where
    values : take (length d.vars) (xs ++ ys) ≡ take (length d.vars) xs
    values = take-append-le (length d.vars) xs ys (omega arith)

    places : take (length d.processes) (drop (length d.vars) (xs ++ ys))
        ≡ take (length d.processes) (drop (length d.vars) xs)
    places =
        ap (take (length d.processes)) (drop-append-le (length d.vars) xs ys (omega arith))
        ∙ take-append-le (length d.processes) (drop (length d.vars) xs) ys
        (omega (arith, length-drop (length d.vars) xs))

    last : get_or (xs ++ ys) (length d.vars + length d.processes) 0 ≡ get_or xs (length d.vars + length d.processes) 0
    last = get_or_append_left xs ys 0 (length d.vars + length d.processes) (omega arith)

-- no bits
abbrev zeros : ℕ → List ℕ
zeros n = replicate n 0

zero_there : (n k : ℕ) → get_or (zeros n) k 0 < 2
zero_there n k =
    elim (cases_lt k n) as (λ _. get_or (zeros n) k 0 < 2) [
      | inl below ↦ subst (λ (x : ℕ). x < 2) (sym (get_or-replicate {A = ℕ} n k 0 0 below)) (omega arith)
      | inr past ↦
          subst (λ (x : ℕ). x < 2)
          (sym (get_or_past (zeros n) k 0 (omega (arith, length-replicate {A = ℕ} n 0)))) (omega arith)
    ]

no_bits : AreBits (zeros room)
no_bits = record { count = length-replicate {A = ℕ} room 0; each = zero_there room }

-- each number of a valid state is of its width
module _ (d : DesignTree) (small : AreSmall d) (s : StateData) (valid : IsState d s) where
  vars : length s.values ≡ length d.vars
  vars = AllZip-long (λ (v : Var) n. n < type_size d.spec v.ty) d.vars s.values valid.values

  processes : length s.places ≡ length d.processes
  processes =
      AllZip-long (λ p k. k ≤ end_number d p) (range_with_len 0 (length d.processes)) s.places valid.places
      ∙ length-range_with_len 0 (length d.processes)

  count : length (state_numbers s) ≡ length (state_widths d)
  count =
      omega (
        arith,
        length-append (s.values ++ s.places) (s.last ∷ []),
        length-append s.values s.places,
        length-state_widths d,
        vars,
        processes,
      )

  numbers_fit : AllZip Fits (state_widths d) (state_numbers s)
  numbers_fit =
      let table : Table = record { inputs = input_widths d; kept = [] } in
      let inputs = are_inputs d small (record { inputs = input_widths d; kept = [] }) s (zeros room)
      (zeros room) refl valid no_bits no_bits in
      fits_by_index (state_widths d) (state_numbers s) count
      (λ i below.
      let long : length (input_values s (zeros room) (zeros room))
      ≡ length (state_numbers s) + length (zeros room) + length (zeros room) =
      length-append (state_numbers s ++ zeros room) (zeros room)
      ∙ ap (λ k. k + length (zeros room)) (length-append (state_numbers s) (zeros room)) in
      subst (λ (w : ℕ). get_or (state_numbers s) i 0 < 2 ^ w)
      (get_or_append_left (state_widths d ++ replicate room 1) (replicate room 1) 0 i
      (omega (arith, count, length-append (state_widths d) (replicate room 1)))
      ∙ get_or_append_left (state_widths d) (replicate room 1) 0 i (omega (arith, count)))
      (subst (λ (n : ℕ). n < 2 ^ get_or (input_widths d) i 0)
      (get_or_append_left (state_numbers s ++ zeros room) (zeros room) 0 i
      (omega (arith, length-append (state_numbers s) (zeros room)))
      ∙ get_or_append_left (state_numbers s) (zeros room) 0 i below)
      (inputs.in_range i (omega (arith, long)))))

-- ---- levels
module _ (d : DesignTree) (order : List ℕ) (is : IsOrder (sum (state_widths d)) order) where
  -- the numbers that values of levels tell
  abbrev pub numbers : (ℕ → Bool) → List ℕ
  numbers v = numbers_from (state_widths d) (bits_by_place order v) 0

  pub numbers_told : (v : ℕ → Bool) → state_numbers (state_of d order v) ≡ numbers v
  numbers_told v =
      numbers_of_state (length d.vars) (length d.processes) (numbers v)
      (length-numbers_from (state_widths d) (bits_by_place order v) 0 ∙ length-state_widths d)

  bits_told : (v : ℕ → Bool) →
      state_bits d (state_of d order v) ≡ map (bits_by_place order v) (range_with_len 0 (sum (state_widths d)))
  bits_told v =
      ap (bits_of_numbers (state_widths d)) (numbers_told v)
      ∙ bits_of-numbers_from (state_widths d) (bits_by_place order v) 0

  -- the bit of a place of a state
  bit_assigned : (s : StateData) (q : ℕ) → q < sum (state_widths d) →
      bits_by_place order (assignment_of d order s) q ≡ get_or (state_bits d s) q false
  bit_assigned s q below =
      let found = level_of_place (sum (state_widths d)) order is q below in
      ap (λ k. get_or (state_bits d s) k false)
      (get_or_default order (level_in order q) (length order) 0 found.below ∙ found.at)

  same_numbers : (v w : ℕ → Bool) →
      ((q : ℕ) → q < sum (state_widths d) → bits_by_place order v q ≡ bits_by_place order w q) →
      state_of d order v ≡ state_of d order w
  same_numbers v w same =
      ap (state_from d)
      (numbers_agree (state_widths d) (bits_by_place order v) (bits_by_place order w) 0
      (λ q above below. same q (omega arith)))

  told_back : AreSmall d → (s : StateData) → IsState d s → state_of d order (assignment_of d order s) ≡ s
  told_back small s valid =
      ap (state_from d)
      (numbers_agree (state_widths d) (bits_by_place order (assignment_of d order s))
      (λ q. get_or (state_bits d s) q false) 0 (λ q above below. bit_assigned s q (omega arith))
      ∙ numbers_back [] (state_widths d) (state_numbers s) (numbers_fit d small s valid))
      ∙ state_of_numbers d s (vars d small s valid) (processes d small s valid)

  told_again : (v : ℕ → Bool) → state_of d order (assignment_of d order (state_of d order v)) ≡ state_of d order v
  told_again v =
      same_numbers (assignment_of d order (state_of d order v)) v
      (λ q below.
      bit_assigned (state_of d order v) q below
      ∙ ap (λ xs. get_or xs q false) (bits_told v)
      ∙ get_or-map-range_with_len (bits_by_place order v) 0 (sum (state_widths d)) q q false below (omega arith))

  pub told_same : (v w : ℕ → Bool) → AreOneState (length order) v w → state_of d order v ≡ state_of d order w
  told_same v w same =
      same_numbers v w
      (λ q below. same (level_in order q) (level_of_place (sum (state_widths d)) order is q below).below)

  told_one : (v w : ℕ → Bool) → state_of d order v ≡ state_of d order w → AreOneState (length order) v w
  told_one v w same k below =
      let place = get_or order k 0 in
      let within : get_or order k 0 < sum (state_widths d) = order_below (sum (state_widths d)) order is k 0 below in
      let level : level_in order (get_or order k 0) ≡ k = level_back (sum (state_widths d)) order is k below in
      let lists = sym (bits_told v) ∙ ap (state_bits d) same ∙ bits_told w in
      let bits = sym (get_or-map-range_with_len (bits_by_place order v) 0 (sum (state_widths d)) (get_or order k 0)
      (get_or order k 0) false within (omega arith))
      ∙ ap (λ xs. get_or xs (get_or order k 0) false) lists
      ∙ get_or-map-range_with_len (bits_by_place order w) 0 (sum (state_widths d)) (get_or order k 0)
      (get_or order k 0) false within (omega arith) in
      ap v (sym level) ∙ bits ∙ ap w level

-- the inputs that values of levels give tell the state that the values tell
pub state_told : (d : DesignTree) (order : List ℕ) → IsOrder (sum (state_widths d)) order → (v : ℕ → Bool)
    (choices arguments : List ℕ) →
    state_from d (input_values (state_of d order v) choices arguments) ≡ state_of d order v
state_told d order is v choices arguments =
    ap (λ xs. state_from d (xs ++ choices ++ arguments)) (numbers_told d order is v)
    ∙ ap (state_from d) (append_assoc (numbers d order is v) choices arguments)
    ∙ state_from-append d (numbers d order is v) (choices ++ arguments)
    (length-numbers_from (state_widths d) (bits_by_place order v) 0 ∙ length-state_widths d)

-- a state is told by its numbers
pub numbers_tell : (d : DesignTree) (order : List ℕ) → IsOrder (sum (state_widths d)) order → (v : ℕ → Bool) →
    state_from d (state_numbers (state_of d order v)) ≡ state_of d order v
numbers_tell d order is v = ap (state_from d) (numbers_told d order is v)

pub is_coding : (d : DesignTree) (order : List ℕ) → AreSmall d → IsOrder (sum (state_widths d)) order →
    IsCoding d (coding_of d order)
is_coding d order small is = record {
  back = told_back d order is small;
  again = told_again d order is;
  same = told_same d order is;
  one = told_one d order is;
}

-- Valid states that no bit tells apart are one.
use Rattle.std.proofs.Common.{◌≡◌, inl, inr, ℕ, zero, suc, ◌+◌, ◌-◌, ◌/◌, ◌%◌, ◌^◌, ◌<◌, ◌≤◌, ◌==◌, Bool, true, false}
use Rattle.std.proofs.Common.{not, ◌||◌, List, [], ◌∷◌, ◌++◌, Some, length, get_or, nat_lt, refl, sym, ap, ◌∙◌}
use Rattle.std.proofs.Common.{subst, arith}
use Rattle.std.proofs.Math.Nat.{div-one}
use Rattle.std.proofs.lemmas.Bool.{cases_lt}
use Rattle.std.proofs.lemmas.Bool.Decides.{nat_tests}
use Rattle.std.proofs.lemmas.List.{get_or_append_left, get_or-append-add, get_or_at, length-append}
use Rattle.std.proofs.lemmas.List.FromFn.{length-range_with_len}
use Rattle.std.proofs.lemmas.Nat.Bits.{shr_and_one}
use Rattle.std.proofs.lemmas.Option.{get_or_from_slice_get, slice_get-get_or, slice_get_within}
use Rattle.std.proofs.lemmas.Slice.Zip.{AllZip-long}
use Rattle.std.specs.List.{range_with_len}
use Rattle.std.specs.Prelude.{All, bit_and, if◌then◌else◌, nat_le, slice_get}
use Rattle.tm_cir.specs.Meaning.{holds, num_value}
use Rattle.tm_cir.specs.Tree.{NumTree, constant, last, location, shift, var}
use Rattle.tm_base.specs.Bits.{bits_of}
use Rattle.tm_base.specs.declared.shift_operator.ShiftOperator.TheVariants.{Right}
use Rattle.tm_dd.specs.declared.node.NodeId.{NodeId}
use Rattle.tm_game.specs.Game.{GameData}
use Rattle.tm_game_bits.specs.AssignedStates.{coding_of, state_of}
use Rattle.tm_game_bits.specs.Coding.{IsCoding}
use Rattle.tm_game_bits.proofs.Coded.{is_coding}
use Rattle.tm_sem.specs.State.{StateData}
use Rattle.tm_sem.specs.StateBits.{bits_of_numbers, state_bits, state_numbers, state_widths}
use Rattle.tm_sem.specs.Step.{IsState}
use Rattle.tm_game.proofs.Shapes.{length-state_widths}
use Rattle.tm_solve.specs.Sets.{IsAmong}
use Rattle.tm_solve_exact.specs.Exact.{IsExactOf, coding, exact_game, set_of, valid_set}
use Rattle.tm_solve_exact.proofs.Growing.{coding_told, order_told, set_tells, valid_told}
use Rattle.tm_solve_exact.proofs.Staying.{among_valid, iff_same}
use Rattle.tm_strat.specs.Choice.{id_in}
use Rattle.tm_strat.specs.Fitting.{FitsCounts}
use Rattle.tm_strat.specs.Tested.{AreTestSets, HasAllBits}
use Rattle.tm_strat.specs.Trees.{lowered_tree, number_in, number_tree, predicate_tree}
use Rattle.tm_strat.specs.declared.numbers.Counts.{Counts}
use Rattle.tm_strat.specs.declared.numbers.Number.TheVariants as numbers
use Rattle.tm_strat.specs.declared.predicates.Predicate.{Predicate}
use Rattle.tm_strat.specs.declared.predicates.Predicate.TheVariants.{Bit}
use Rattle.tm_syntax.specs.declared.design.Var.{Var}
use Rattle.tm_syntax.specs.Design.{DesignTree}
use Rattle.tm_syntax.specs.Design.Locations.{end_number}
use Rattle.tm_syntax.specs.Design.Sizes.{type_size}

-- ---- bits of numbers
-- the bit of a weight of one of some numbers
abbrev pub bit_in : List ℕ → ℕ → ℕ → Bool
bit_in xs i k = get_or xs i 0 / 2 ^ k % 2 == 1

bits_same : (w x y : ℕ) → ((k : ℕ) → k < w → (x / 2 ^ k % 2 == 1) ≡ (y / 2 ^ k % 2 == 1)) → bits_of w x ≡ bits_of w y
bits_same zero x y same = refl
bits_same (suc w) x y same =
    let first = same w (omega arith) in
    let others = bits_same w x y (λ k below. same k (omega (arith, below))) in
    λ i. first i ∷ others i

numbers_same : (ws xs ys : List ℕ) → length xs ≡ length ys →
    ((i w k : ℕ) → slice_get ws i ≡ Some w → k < w → bit_in xs i k ≡ bit_in ys i k) →
    bits_of_numbers ws xs ≡ bits_of_numbers ws ys
numbers_same [] xs ys long same = refl
numbers_same (w ∷ ws) [] [] long same = refl
numbers_same (w ∷ ws) [] (y ∷ ys) long same = absurd (omega (arith, long))
numbers_same (w ∷ ws) (x ∷ xs) [] long same = absurd (omega (arith, long))
numbers_same (w ∷ ws) (x ∷ xs) (y ∷ ys) long same =
    let first = bits_same w x y (λ k below. same 0 w k refl below) in
    let others = numbers_same ws xs ys (omega (arith, long)) (λ j v k there below. same (suc j) v k there below) in
    λ i. first i ++ others i

-- ---- what the test of a bit tells
lowered_value : (s : StateData) (n : NumTree) (k : ℕ) → k < 64 →
    num_value s 0 (lowered_tree n k) ≡ num_value s 0 n / 2 ^ k
lowered_value s n zero below = sym (div-one (num_value s 0 n))
lowered_value s n (suc k) below =
    let small : ((suc k == 0) || nat_le 64 (suc k)) ≡ false = grind (arith, nat_tests, below) in
    ap (λ (b : Bool). num_value s 0 (if b then n else shift Right n (suc k))) small

module _ (c : Counts) (s : StateData) (vars : length s.values ≡ c.vars) (processes : length s.places ≡ c.processes)
  where
    variable_value : (i : ℕ) → i < c.vars →
        num_value s 0 (number_tree c (number_in c i)) ≡ get_or (state_numbers s) i 0
    variable_value i below =
        let low : nat_lt i c.vars ≡ true = grind (arith, nat_tests, below) in
        ap (λ (b : Bool). num_value s 0 (number_tree c (if b then numbers.Variable i
        else (if nat_lt (i - c.vars) c.processes then numbers.Location (i - c.vars) else numbers.Last)))) low
        ∙ ap (λ (b : Bool). num_value s 0 (if b then var i else constant 0)) low
        ∙ sym (get_or_append_left s.values s.places 0 i (omega (arith, below, vars)))
        ∙ sym (get_or_append_left (s.values ++ s.places) (s.last ∷ []) 0 i
        (omega (arith, below, vars, length-append s.values s.places)))

    location_value : (i : ℕ) → c.vars ≤ i → i - c.vars < c.processes →
        num_value s 0 (number_tree c (number_in c i)) ≡ get_or (state_numbers s) i 0
    location_value i above below =
        let high : nat_lt i c.vars ≡ false = grind (arith, nat_tests, above) in
        let low : nat_lt (i - c.vars) c.processes ≡ true = grind (arith, nat_tests, below) in
        let place : length s.values + (i - c.vars) ≡ i = omega (arith, vars, above) in
        ap (λ (b : Bool). num_value s 0 (number_tree c (if b then numbers.Variable i
        else (if nat_lt (i - c.vars) c.processes then numbers.Location (i - c.vars) else numbers.Last)))) high
        ∙ ap (λ (b : Bool). num_value s 0 (number_tree c (if b then numbers.Location (i - c.vars) else numbers.Last)))
        low
        ∙ ap (λ (b : Bool). num_value s 0 (if b then location (i - c.vars) else constant 0)) low
        ∙ sym (get_or-append-add s.values s.places (i - c.vars) 0)
        ∙ ap (λ (k : ℕ). get_or (s.values ++ s.places) k 0) place
        ∙ sym (get_or_append_left (s.values ++ s.places) (s.last ∷ []) 0 i
        (omega (arith, above, below, vars, processes, length-append s.values s.places)))

    last_value : (i : ℕ) → i ≡ c.vars + c.processes →
        num_value s 0 (number_tree c (number_in c i)) ≡ get_or (state_numbers s) i 0
    last_value i is =
        let high : nat_lt i c.vars ≡ false = grind (arith, nat_tests, is) in
        let past : nat_lt (i - c.vars) c.processes ≡ false = grind (arith, nat_tests, is) in
        let place : length (s.values ++ s.places) ≡ i =
        omega (arith, vars, processes, is, length-append s.values s.places) in
        ap (λ (b : Bool). num_value s 0 (number_tree c (if b then numbers.Variable i
        else (if nat_lt (i - c.vars) c.processes then numbers.Location (i - c.vars) else numbers.Last)))) high
        ∙ ap (λ (b : Bool). num_value s 0 (number_tree c (if b then numbers.Location (i - c.vars) else numbers.Last)))
        past
        ∙ sym (get_or_at (s.values ++ s.places) s.last [] 0 i place)

    number_value : (i : ℕ) → i < c.vars + (c.processes + 1) →
        num_value s 0 (number_tree c (number_in c i)) ≡ get_or (state_numbers s) i 0
    number_value i below =
        elim (cases_lt i c.vars)
        as (λ _. num_value s 0 (number_tree c (number_in c i)) ≡ get_or (state_numbers s) i 0) [
          | inl low ↦ variable_value i low
          | inr high ↦
              elim (cases_lt (i - c.vars) c.processes) as (λ _.
              num_value s 0 (number_tree c (number_in c i)) ≡ get_or (state_numbers s) i 0) [
                | inl inside ↦ location_value i high inside
                | inr past ↦ last_value i (omega (arith, below, high, past))
              ]
        ]

    nonzero : (r : ℕ) → r < 2 → not (r == 0) ≡ (r == 1)
    nonzero zero small = refl
    nonzero (suc zero) small = refl
    nonzero (suc (suc r)) small = absurd (omega (arith, small))

    pub bit_holds : (i k : ℕ) → i < c.vars + (c.processes + 1) → k < 64 →
        holds s 0 (predicate_tree c (Bit (number_in c i) k)) ≡ bit_in (state_numbers s) i k
    bit_holds i k below small =
        let value = lowered_value s (number_tree c (number_in c i)) k small
        ∙ ap (λ (n : ℕ). n / 2 ^ k) (number_value i below) in
        ap (λ (n : ℕ). not (bit_and n 1 == 0)) value
        ∙ ap (λ (n : ℕ). not (n == 0)) (shr_and_one (get_or (state_numbers s) i 0) k)
        ∙ nonzero (get_or (state_numbers s) i 0 / 2 ^ k % 2) (omega arith)

-- ---- states
values_long : (d : DesignTree) (s : StateData) → IsState d s → length s.values ≡ length d.vars
values_long d s state = AllZip-long (λ (v : Var) n. n < type_size d.spec v.ty) d.vars s.values state.values

places_long : (d : DesignTree) (s : StateData) → IsState d s → length s.places ≡ length d.processes
places_long d s state =
    AllZip-long (λ p k. k ≤ end_number d p) (range_with_len 0 (length d.processes)) s.places state.places
    ∙ length-range_with_len 0 (length d.processes)

numbers_long : (d : DesignTree) (s : StateData) → IsState d s →
    length (state_numbers s) ≡ length d.vars + (length d.processes + 1)
numbers_long d s state =
    let values = values_long d s state in
    let places = places_long d s state in
    omega (
      arith,
      values,
      places,
      length-append (s.values ++ s.places) (s.last ∷ []),
      length-append s.values s.places,
    )

module _ (d : DesignTree) (g : GameData) (is : IsExactOf d g) (c : Counts) (fits : FitsCounts d c)
    (predicates : List Predicate) (tests : List NodeId) (sets : AreTestSets d g c predicates tests)
    (all : HasAllBits d c predicates) (wide : All (λ w. w ≤ 64) (state_widths d)) where
  module _ (s t : StateData) (in_s : IsState d s) (in_t : IsState d t)
      (same : (k : ℕ) → k < length tests → set_of g (id_in tests k) s ≡ set_of g (id_in tests k) t) where
    test_same : (q : ℕ) (p : Predicate) → slice_get predicates q ≡ Some p →
        holds s 0 (predicate_tree c p) ≡ holds t 0 (predicate_tree c p)
    test_same q p there =
        let within = slice_get_within predicates q p there in
        let count = sets.count_is in
        let set = sets.each q p there in
        let tells = set_tells d g is (λ (u : StateData). holds u 0 (predicate_tree c p) ≡ true) (id_in tests q) set in
        let one = same q (omega (arith, within, count)) in
        iff_same (holds s 0 (predicate_tree c p)) (holds t 0 (predicate_tree c p))
        (λ h. (tells t in_t).0 (sym one ∙ (tells s in_s).1 h))
        (λ h. (tells s in_s).0 (one ∙ (tells t in_t).1 h))

    bit_same : (i w k : ℕ) → slice_get (state_widths d) i ≡ Some w → k < w →
        bit_in (state_numbers s) i k ≡ bit_in (state_numbers t) i k
    bit_same i w k there below =
        let found = all.each i w k there below in
        let p : Predicate = Bit (number_in c i) k in
        let within = slice_get_within (state_widths d) i w there in
        let narrow : w ≤ 64 = subst (λ (n : ℕ). n ≤ 64) (get_or_from_slice_get (state_widths d) i w w there)
        (wide i w within) in
        let long = length-state_widths d in
        let vars = fits.vars in
        let processes = fits.processes in
        let inside : i < c.vars + (c.processes + 1) = omega (arith, within, long, vars, processes) in
        let small : k < 64 = omega (arith, below, narrow) in
        sym (bit_holds c s (values_long d s in_s ∙ sym vars) (places_long d s in_s ∙ sym processes) i k inside small)
        ∙ test_same found.0 p (slice_get-get_or predicates found.0 p found.1 ∙ ap Some found.2)
        ∙ bit_holds c t (values_long d t in_t ∙ sym vars) (places_long d t in_t ∙ sym processes) i k inside small

    bits_are : state_bits d s ≡ state_bits d t
    bits_are =
        numbers_same (state_widths d) (state_numbers s) (state_numbers t)
        (numbers_long d s in_s ∙ sym (numbers_long d t in_t)) bit_same

    coded : IsCoding d (coding_of d g.order)
    coded = is_coding d g.order is.ordered.of.small (order_told d g is)

    pub one_state : s ≡ t
    one_state =
        sym (coded.back s in_s)
        ∙ ap (λ (bits : List Bool).
        state_of d g.order (λ (level : ℕ). get_or bits (get_or g.order level (length g.order)) false)) bits_are
        ∙ coded.back t in_t

  pub told : (s t : StateData) → IsAmong s (exact_game g).states → IsAmong t (exact_game g).states →
      ((k : ℕ) → k < length tests → set_of g (id_in tests k) s ≡ set_of g (id_in tests k) t) → s ≡ t
  told s t among_s among_t same =
      let valid = among_valid d (coding g) (coding_told d g is) (valid_set g) (valid_told d g is) in
      one_state s t (valid s among_s) (valid t among_t) same

-- Values of levels are values of the inputs of terms: of a state, of choices and of arguments.
use Rattle.std.proofs.Common.{◌≡◌, ℕ, zero, suc, ◌+◌, ◌^◌, ◌<◌, ◌≤◌, Bool, true, false, List, [], ◌∷◌, ◌++◌, length, get_or, map, replicate, inl, inr, refl, sym, ap, ◌∙◌, subst, arith}
use Rattle.std.specs.Prelude.{All, sum}
use Rattle.std.specs.List.{AllZip, range_with_len}
use Rattle.std.proofs.lemmas.Bool.{cases_lt}
use Rattle.std.proofs.lemmas.List.{get_or-map, get_or_past, length-map, map-append}
use Rattle.std.proofs.lemmas.List.Elements.{All-cons, All-nil}
use Rattle.std.proofs.lemmas.List.FromFn.{get_or-map-range_with_len, length-map-range_with_len}
use Rattle.std.proofs.lemmas.List.Sums.{sum_by-cons}
use Rattle.tm_base.specs.Arithmetic.{bit}
use Rattle.tm_base.specs.Bits.{number_of}
use Rattle.tm_blast.specs.Bits as blasted
use Rattle.tm_blast.specs.Bits.{AreLevels}
use Rattle.tm_syntax.specs.Design.{DesignTree}
use Rattle.tm_term.specs.Table.{Table}
use Rattle.tm_term.specs.Value.{AreInputs}
use Rattle.tm_sem.specs.StateBits.{state_widths}
use Rattle.tm_flat.specs.Inputs.{room, AreBits, input_values, input_widths}
use Rattle.tm_game_bits.specs.Order.{IsOrder, level_in}
use Rattle.tm_game_bits.proofs.Orders.{length_order, level_of_place}
use Rattle.tm_game_bits.specs.Inputs.{arguments_at, bit_levels, bits_at, choice_level, choices_at, input_levels, number_levels}
use Rattle.tm_game_bits.specs.AssignedStates.{bits_by_place, numbers_from, state_of}
use Rattle.tm_game_bits.proofs.Coded.{numbers_told}
use Rattle.tm_game_bits.proofs.Numbers.{number_below}

-- ---- values
map-map : (f : ℕ → Bool) (g : ℕ → ℕ) (xs : List ℕ) → map f (map g xs) ≡ map (λ x. f (g x)) xs
map-map f g [] = refl
map-map f g (x ∷ xs) = ap (λ ys. f (g x) ∷ ys) (map-map f g xs)

number_values : (order ws : List ℕ) (v : ℕ → Bool) (place : ℕ) →
    blasted.input_values (number_levels order ws place) v ≡ numbers_from ws (bits_by_place order v) place
number_values order [] v place = refl
number_values order (w ∷ ws) v place =
    λ i.
    number_of (map-map v (level_in order) (range_with_len place w) i) ∷ number_values order ws v (place + w) i

one_bit : (b : Bool) → number_of (b ∷ []) ≡ bit b
one_bit true = omega arith
one_bit false = omega arith

bit_values : (v : ℕ → Bool) (level count : ℕ) →
    blasted.input_values (bit_levels level count) v ≡ bits_at v level count
bit_values v level zero = refl
bit_values v level (suc n) = λ i. one_bit (v level) i ∷ bit_values v (level + 1) n i

pub values_told : (d : DesignTree) (order : List ℕ) → IsOrder (sum (state_widths d)) order → (v : ℕ → Bool) →
    blasted.input_values (input_levels order (state_widths d)) v
    ≡ input_values (state_of d order v) (choices_at order v) (arguments_at order v)
values_told d order is v =
    map-append (λ (bits : List ℕ). number_of (map v bits))
    (number_levels order (state_widths d) 0 ++ bit_levels (choice_level order) room) (bit_levels (length order) room)
    ∙ (λ i.
    map-append (λ (bits : List ℕ). number_of (map v bits)) (number_levels order (state_widths d) 0)
    (bit_levels (choice_level order) room) i
    ++ bit_values v (length order) room i)
    ∙ (λ i.
    (number_values order (state_widths d) v 0 ∙ sym (numbers_told d order is v)) i
    ++ bit_values v (choice_level order) room i ++ arguments_at order v)

-- ---- bits
bit_small : (b : Bool) → bit b < 2
bit_small true = omega arith
bit_small false = omega arith

pub are_bits : (v : ℕ → Bool) (level : ℕ) → AreBits (bits_at v level room)
are_bits v level = record { count = length-map-range_with_len (λ k. bit (v k)) level room; each = each }
  where
    each : (k : ℕ) → get_or (bits_at v level room) k 0 < 2
    each k =
        elim (cases_lt k room) as (λ _. get_or (bits_at v level room) k 0 < 2) [
          | inl below ↦
              subst (λ (x : ℕ). x < 2)
              (sym (get_or-map-range_with_len (λ k. bit (v k)) level room k (level + k) 0 below refl))
              (bit_small (v (level + k)))
          | inr past ↦
              subst (λ (x : ℕ). x < 2)
              (sym (get_or_past (bits_at v level room) k 0
              (omega (arith, length-map-range_with_len (λ k. bit (v k)) level room))))
              (omega arith)
        ]

-- ---- levels
-- levels of one input: as many as it has bits, each below the number of levels
record Fits (count : ℕ) (levels : List ℕ) (width : ℕ) : Type 0 where
  long : length levels ≡ width
  below : All (λ level. level < count) levels

zip_append : (count : ℕ) (xs ys : List (List ℕ)) (ws vs : List ℕ) → AllZip (Fits count) xs ws →
    AllZip (Fits count) ys vs → AllZip (Fits count) (xs ++ ys) (ws ++ vs)
zip_append count [] ys [] vs one other = other
zip_append count [] ys (w ∷ ws) vs one other = absurd one
zip_append count (x ∷ xs) ys [] vs one other = absurd one
zip_append count (x ∷ xs) ys (w ∷ ws) vs one other = (one.0, zip_append count xs ys ws vs one.1 other)

range_levels : (f : ℕ → ℕ) (count place n : ℕ) → ((q : ℕ) → place ≤ q → q < place + n → f q < count) →
    All (λ level. level < count) (map f (range_with_len place n))
range_levels f count place zero small = All-nil (λ level. level < count)
range_levels f count place (suc n) small =
    All-cons (λ level. level < count) (f place) (map f (range_with_len (place + 1) n))
    (small place (omega arith) (omega arith))
    (range_levels f count (place + 1) n (λ q above below. small q (omega arith) (omega arith)))

numbers_fit : (order ws : List ℕ) (count place : ℕ) →
    ((q : ℕ) → place ≤ q → q < place + sum ws → level_in order q < count) →
    AllZip (Fits count) (number_levels order ws place) ws
numbers_fit order [] count place small = tt
numbers_fit order (w ∷ ws) count place small =
    let all = sum_by-cons (λ x. x) w ws in (
      record {
        long = length-map-range_with_len (level_in order) place w;
        below = range_levels (level_in order) count place w
            (λ q above below. small q above (omega (arith, all)));
      },
      numbers_fit order ws count (place + w) (λ q above below. small q (omega arith) (omega (arith, all))),
    )

bits_fit : (count level n : ℕ) → level + n ≤ count → AllZip (Fits count) (bit_levels level n) (replicate n 1)
bits_fit count level zero small = tt
bits_fit count level (suc n) small = (
  record {
    long = refl;
    below = All-cons (λ k. k < count) level [] (omega arith) (All-nil (λ k. k < count));
  },
  bits_fit count (level + 1) n (omega arith),
)

zip_long : (count : ℕ) (xs : List (List ℕ)) (ws : List ℕ) → AllZip (Fits count) xs ws → length xs ≡ length ws
zip_long count [] [] all = refl
zip_long count [] (w ∷ ws) all = absurd all
zip_long count (x ∷ xs) [] all = absurd all
zip_long count (x ∷ xs) (w ∷ ws) all = ap suc (zip_long count xs ws all.1)

zip_width : (count : ℕ) (xs : List (List ℕ)) (ws : List ℕ) → AllZip (Fits count) xs ws → (i : ℕ) (d : List ℕ) →
    i < length xs → length (get_or xs i d) ≡ get_or ws i 0
zip_width count [] ws all i d below = absurd (omega arith)
zip_width count (x ∷ xs) [] all i d below = absurd all
zip_width count (x ∷ xs) (w ∷ ws) all zero d below = all.0.long
zip_width count (x ∷ xs) (w ∷ ws) all (suc i) d below = zip_width count xs ws all.1 i d (omega arith)

zip_below : (count : ℕ) (xs : List (List ℕ)) (ws : List ℕ) → AllZip (Fits count) xs ws →
    All (All (λ level. level < count)) xs
zip_below count [] ws all = All-nil (All (λ level. level < count))
zip_below count (x ∷ xs) [] all = absurd all
zip_below count (x ∷ xs) (w ∷ ws) all =
    All-cons (All (λ level. level < count)) x xs all.0.below (zip_below count xs ws all.1)

pub levels_fit : (d : DesignTree) (order : List ℕ) → IsOrder (sum (state_widths d)) order → (t : Table) →
    t.inputs ≡ input_widths d → (count : ℕ) → length order + (room + room) ≤ count →
    AreLevels t count (input_levels order (state_widths d))
levels_fit d order is t inputs count enough =
    let long = length_order (sum (state_widths d)) order is in
    let fit : AllZip (Fits count) (input_levels order (state_widths d)) (input_widths d) =
    zip_append count (number_levels order (state_widths d) 0 ++ bit_levels (choice_level order) room)
    (bit_levels (length order) room) (state_widths d ++ replicate room 1) (replicate room 1)
    (zip_append count (number_levels order (state_widths d) 0) (bit_levels (choice_level order) room)
    (state_widths d) (replicate room 1)
    (numbers_fit order (state_widths d) count 0
    (λ q above below.
    let found = level_of_place (sum (state_widths d)) order is q (omega arith) in
    omega (arith, found.below)))
    (bits_fit count (choice_level order) room (omega arith)))
    (bits_fit count (length order) room (omega arith)) in
    let told : AllZip (Fits count) (input_levels order (state_widths d)) t.inputs =
    subst (λ (ws : List ℕ). AllZip (Fits count) (input_levels order (state_widths d)) ws) (sym inputs) fit in
    record {
      inputs = zip_long count (input_levels order (state_widths d)) t.inputs told;
      widths = zip_width count (input_levels order (state_widths d)) t.inputs told;
      below = zip_below count (input_levels order (state_widths d)) t.inputs told;
    }

-- each value is in range of its input
pub values_fit : (d : DesignTree) (order : List ℕ) → IsOrder (sum (state_widths d)) order → (t : Table) →
    t.inputs ≡ input_widths d → (v : ℕ → Bool) →
    AreInputs t (input_values (state_of d order v) (choices_at order v) (arguments_at order v))
values_fit d order is t inputs v =
    let levels = input_levels order (state_widths d) in
    let value : List ℕ → ℕ = λ bits. number_of (map v bits) in
    let fit = levels_fit d order is t inputs (length order + (room + room)) (omega arith) in
    subst (AreInputs t) (values_told d order is v) (record {
      count = length-map (input_levels order (state_widths d)) value ∙ fit.inputs;
      in_range = λ i below.
          let within : i < length (input_levels order (state_widths d)) =
          omega (arith, below, length-map (input_levels order (state_widths d)) value) in
          let here = get_or (input_levels order (state_widths d)) i [] in
          let width : length (map v (get_or (input_levels order (state_widths d)) i [])) ≡ get_or t.inputs i 0 =
          length-map (get_or (input_levels order (state_widths d)) i []) v ∙ fit.widths i [] within in
          subst (λ (x : ℕ). x < 2 ^ get_or t.inputs i 0)
          (sym (get_or-map value (input_levels order (state_widths d)) i [] 0 within))
          (subst (λ (k : ℕ). number_of (map v (get_or (input_levels order (state_widths d)) i [])) < 2 ^ k) width
          (number_below (map v (get_or (input_levels order (state_widths d)) i []))));
    })

-- The bits of one weight, number by number, are those of the definition.
use Rattle.std.proofs.Common.{◌≡◌, ℕ, zero, suc, ◌+◌, ◌-◌, ◌<◌, ◌≤◌, Bool, cond, eqb, ltb, List, [], ◌∷◌, ◌++◌, length, get_or, drop, inl, inr, refl, sym, ap, ◌∙◌, subst, append_assoc, arith}
use Rattle.std.specs.Prelude.{sum}
use Rattle.std.specs.List.{filter, flat_map, range_with_len}
use Rattle.std.proofs.lemmas.Bool.{cases_eq, cases_lt, cond-true, cond-false, eq-eqb, ne_eqb, lt-ltb, le-ltb}
use Rattle.std.proofs.lemmas.List.{append-nil, drop_more, drop_all, get_or_at, length-append, length_push}
use Rattle.std.proofs.lemmas.List.Elements.{filter-append}
use Rattle.std.proofs.lemmas.List.Sums.{sum_by-cons, sum_by-drop_more}
use Rattle.tm_sem.specs.StateBits.{downwards, places_of_weight, weight_order, weights}
use Rattle.tm_game_bits.specs.Inner.Weights.{at_weight}

-- the places of the bits of a weight of numbers whose bits begin at a place
abbrev pub places_from : ℕ → List ℕ → ℕ → List ℕ
places_from start [] weight = []
places_from start (w ∷ ws) weight = at_weight start w weight ++ places_from (start + w) ws weight

pub length-downwards : (n : ℕ) → length (downwards n) ≡ n
length-downwards zero = refl
length-downwards (suc n) = omega (arith, length-downwards n)

pub length-weights : (widths : List ℕ) → length (weights widths) ≡ sum widths
length-weights [] = refl
length-weights (w ∷ ws) =
    length-append (downwards w) (weights ws)
    ∙ (λ i. length-downwards w i + length-weights ws i)
    ∙ sym (sum_by-cons (λ x. x) w ws)

pub range_split : (a n m : ℕ) → range_with_len a (n + m) ≡ range_with_len a n ++ range_with_len (a + n) m
range_split a zero m =
    let none : zero + m ≡ m = omega arith in
    let here : a ≡ a + zero = omega arith in
    λ i. range_with_len (here i) (none i)
range_split a (suc n) m =
    let count : suc n + m ≡ suc (n + m) = omega arith in
    let start : a + 1 + n ≡ a + suc n = omega arith in
    ap (λ k. range_with_len a k) count
    ∙ ap (λ xs. a ∷ xs) (range_split (a + 1) n m)
    ∙ ap (λ k. a ∷ (range_with_len (a + 1) n ++ range_with_len k m)) start

bit_there : (start width weight place : ℕ) → weight < width → start + (width - 1 - weight) ≡ place →
    at_weight start width weight ≡ place ∷ []
bit_there start width weight place below is =
    cond-true (ltb weight width) ((start + (width - 1 - weight)) ∷ []) [] (lt-ltb weight width below)
    ∙ ap (λ k. k ∷ []) is

no_bit_there : (start width weight : ℕ) → width ≤ weight → at_weight start width weight ≡ []
no_bit_there start width weight above =
    cond-false (ltb weight width) ((start + (width - 1 - weight)) ∷ []) [] (le-ltb weight width above)

-- one more bit of a number
one_bit : (start n weight : ℕ) (b : Bool) (rest : List ℕ) → b ≡ eqb n weight → rest ≡ at_weight (start + 1) n weight →
    cond b (start ∷ rest) rest ≡ at_weight start (suc n) weight
one_bit start n weight b rest is tail =
    elim (cases_eq n weight) as (λ _. cond b (start ∷ rest) rest ≡ at_weight start (suc n) weight) [
      | inl same ↦
          cond-true b (start ∷ rest) rest (is ∙ eq-eqb n weight same)
          ∙ ap (λ xs. start ∷ xs) (tail ∙ no_bit_there (start + 1) n weight (omega arith))
          ∙ sym (bit_there start (suc n) weight start (omega arith) (omega arith))
      | inr other ↦
          cond-false b (start ∷ rest) rest (is ∙ ne_eqb n weight other)
          ∙ tail
          ∙ elim (cases_lt weight n) as (λ _. at_weight (start + 1) n weight ≡ at_weight start (suc n) weight) [
            | inl below ↦
                bit_there (start + 1) n weight (start + (suc n - 1 - weight)) below (omega arith)
                ∙ sym (bit_there start (suc n) weight (start + (suc n - 1 - weight)) (omega arith) refl)
            | inr above ↦
                no_bit_there (start + 1) n weight above ∙ sym (no_bit_there start (suc n) weight (omega arith))
          ]
    ]

-- the places whose bits have the weight
abbrev of_weight : List ℕ → ℕ → ℕ → ℕ → List ℕ
of_weight by_place weight start count =
    filter (λ place. eqb (get_or by_place place 0) weight) (range_with_len start count)

-- the bits of one number
bits_here : (front : List ℕ) (n : ℕ) (back : List ℕ) (weight : ℕ) →
    of_weight (front ++ (downwards n ++ back)) weight (length front) n ≡ at_weight (length front) n weight
bits_here front zero back weight = sym (no_bit_there (length front) zero weight (omega arith))
bits_here front (suc n) back weight =
    let whole : List ℕ = front ++ (n ∷ (downwards n ++ back)) in
    let assoc : (front ++ n ∷ []) ++ (downwards n ++ back) ≡ front ++ (n ∷ (downwards n ++ back)) =
    append_assoc front (n ∷ []) (downwards n ++ back) in
    let later = bits_here (front ++ n ∷ []) n back weight in
    let moved = subst (λ (xs : List ℕ).
    of_weight xs weight (length (front ++ n ∷ [])) n ≡ at_weight (length (front ++ n ∷ [])) n weight) assoc later in
    let tail = subst (λ (k : ℕ).
    of_weight (front ++ (n ∷ (downwards n ++ back))) weight k n ≡ at_weight k n weight) (length_push front n) moved in
    one_bit (length front) n weight
    (eqb (get_or (front ++ (n ∷ (downwards n ++ back))) (length front) 0) weight)
    (of_weight (front ++ (n ∷ (downwards n ++ back))) weight (length front + 1) n)
    (ap (λ k. eqb k weight) (get_or_at front n (downwards n ++ back) 0 (length front) refl)) tail

-- the bits of numbers
bits_from : (front widths : List ℕ) (weight : ℕ) →
    of_weight (front ++ weights widths) weight (length front) (length (weights widths))
    ≡ places_from (length front) widths weight
bits_from front [] weight = refl
bits_from front (n ∷ ns) weight =
    let rest = weights ns in
    let start = length front in
    let count : length (downwards n ++ weights ns) ≡ n + length (weights ns) =
    length-append (downwards n) (weights ns) ∙ ap (λ k. k + length (weights ns)) (length-downwards n) in
    let end : length (front ++ downwards n) ≡ length front + n =
    length-append front (downwards n) ∙ ap (λ k. length front + k) (length-downwards n) in
    let assoc : (front ++ downwards n) ++ weights ns ≡ front ++ (downwards n ++ weights ns) =
    append_assoc front (downwards n) (weights ns) in
    let later = bits_from (front ++ downwards n) ns weight in
    let moved = subst (λ (xs : List ℕ).
    of_weight xs weight (length (front ++ downwards n)) (length (weights ns))
    ≡ places_from (length (front ++ downwards n)) ns weight) assoc later in
    let tail = subst (λ (k : ℕ).
    of_weight (front ++ (downwards n ++ weights ns)) weight k (length (weights ns)) ≡ places_from k ns weight)
    end moved in
    ap (λ k. of_weight (front ++ (downwards n ++ weights ns)) weight (length front) k) count
    ∙ ap (λ xs. filter (λ place. eqb (get_or (front ++ (downwards n ++ weights ns)) place 0) weight) xs)
    (range_split (length front) n (length (weights ns)))
    ∙ filter-append (λ place. eqb (get_or (front ++ (downwards n ++ weights ns)) place 0) weight)
    (range_with_len (length front) n) (range_with_len (length front + n) (length (weights ns)))
    ∙ (λ i. bits_here front n (weights ns) weight i ++ tail i)

pub places_are : (widths : List ℕ) (weight : ℕ) → places_of_weight (weights widths) weight ≡ places_from 0 widths weight
places_are widths weight = bits_from [] widths weight

-- ---- the loop over the numbers
-- behind what was put there stand the bits that are left
pub record IsPlaced (widths old : List ℕ) (weight : ℕ) (items : List ℕ) (start i : ℕ) : Type 0 where
  pub offset : start + sum (drop i widths) ≡ sum widths
  pub rest : items ++ places_from start (drop i widths) weight ≡ old ++ places_of_weight (weights widths) weight

pub placed_first : (widths old : List ℕ) (weight : ℕ) → IsPlaced widths old weight old 0 0
placed_first widths old weight = record {
  offset = omega arith;
  rest = ap (λ xs. old ++ xs) (sym (places_are widths weight));
}

pub start_fits : (widths old : List ℕ) (weight : ℕ) (items : List ℕ) (start i width : ℕ) → i < length widths →
    width ≡ get_or widths i 0 → IsPlaced widths old weight items start i → start + width ≤ sum widths
start_fits widths old weight items start i width below is so_far =
    omega (arith, so_far.offset, sum_by-drop_more (λ x. x) widths i 0 below)

pub placed_more : (widths old : List ℕ) (weight : ℕ) (items new : List ℕ) (start i width : ℕ) → i < length widths →
    width ≡ get_or widths i 0 → IsPlaced widths old weight items start i → new ≡ items ++ at_weight start width weight →
    IsPlaced widths old weight new (start + width) (i + 1)
placed_more widths old weight items new start i width below is so_far pushes =
    let split : drop i widths ≡ width ∷ drop (i + 1) widths =
    drop_more widths i 0 below ∙ ap (λ k. k ∷ drop (i + 1) widths) (sym is) in
    record {
      offset = omega (arith, so_far.offset, sum_by-drop_more (λ x. x) widths i 0 below);
      rest =
          ap (λ xs. xs ++ places_from (start + width) (drop (i + 1) widths) weight) pushes
          ∙ append_assoc items (at_weight start width weight) (places_from (start + width) (drop (i + 1) widths) weight)
          ∙ ap (λ xs. items ++ places_from start xs weight) (sym split)
          ∙ so_far.rest;
    }

pub placed_all : (widths old : List ℕ) (weight : ℕ) (items : List ℕ) (start i : ℕ) → length widths ≤ i →
    IsPlaced widths old weight items start i → items ≡ old ++ places_of_weight (weights widths) weight
placed_all widths old weight items start i end placed =
    sym (append-nil items)
    ∙ ap (λ xs. items ++ places_from start xs weight) (sym (drop_all i widths end))
    ∙ placed.rest

-- ---- the loop over the weights
-- the places of the bits whose weight is below a number, in the weight order
pub left_by_weight : List ℕ → ℕ → List ℕ
left_by_weight widths n = flat_map (places_of_weight (weights widths)) (downwards n)

left_more : (widths : List ℕ) (n : ℕ) →
    left_by_weight widths (suc n) ≡ places_of_weight (weights widths) n ++ left_by_weight widths n
unfolding left_by_weight
left_more widths n = refl

left_none : (widths : List ℕ) → left_by_weight widths 0 ≡ []
unfolding left_by_weight
left_none widths = refl

left_all : (widths : List ℕ) → left_by_weight widths 64 ≡ weight_order widths
unfolding left_by_weight
left_all widths = refl

-- behind what was put there stand the bits of smaller weights
pub record IsOrdered (widths items : List ℕ) (passed : ℕ) : Type 0 where
  pub rest : items ++ left_by_weight widths (64 - passed) ≡ left_by_weight widths 64

pub ordered_first : (widths : List ℕ) → IsOrdered widths [] 0
ordered_first widths = record { rest = refl }

pub ordered_more : (widths items new : List ℕ) (passed weight : ℕ) → passed < 64 → weight ≡ 63 - passed →
    IsOrdered widths items passed → new ≡ items ++ places_of_weight (weights widths) weight →
    IsOrdered widths new (passed + 1)
ordered_more widths items new passed weight below is so_far pushes =
    let one_more : 64 - passed ≡ suc weight = omega arith in
    let one_less : 64 - (passed + 1) ≡ weight = omega arith in
    record {
      rest =
          (λ i. pushes i ++ left_by_weight widths (one_less i))
          ∙ append_assoc items (places_of_weight (weights widths) weight) (left_by_weight widths weight)
          ∙ ap (λ xs. items ++ xs) (sym (left_more widths weight))
          ∙ ap (λ k. items ++ left_by_weight widths k) (sym one_more)
          ∙ so_far.rest;
    }

pub ordered_all : (widths items : List ℕ) (passed : ℕ) → 64 ≤ passed → IsOrdered widths items passed →
    items ≡ weight_order widths
ordered_all widths items passed end ordered =
    let none : 64 - passed ≡ 0 = omega arith in
    sym (append-nil items)
    ∙ ap (λ xs. items ++ xs) (sym (left_none widths))
    ∙ ap (λ k. items ++ left_by_weight widths k) (sym none)
    ∙ ordered.rest
    ∙ left_all widths

-- ---- the places in order
pub range_push : (n : ℕ) → range_with_len 0 (n + 1) ≡ range_with_len 0 n ++ n ∷ []
range_push n =
    let same : 0 + n ≡ n = omega arith in
    range_split 0 n 1 ∙ ap (λ k. range_with_len 0 n ++ k ∷ []) same

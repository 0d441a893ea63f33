-- No level is of two bits of the inputs: the levels of the inputs are those of the numbers below a count, by a function
-- that keeps them apart.
use Rattle.std.proofs.Common.{◌≡◌, ℕ, zero, suc, ◌+◌, ◌-◌, ◌<◌, ◌≤◌, cond, ltb, List, [], ◌∷◌, ◌++◌, length, get_or, map, replicate, inl, inr, refl, sym, ap, ◌∙◌, subst, arith}
use Rattle.std.specs.Prelude.{sum}
use Rattle.std.specs.List.{range_with_len}
use Rattle.std.proofs.lemmas.List.FromFn.{get_or-map-range_with_len, length-map-range_with_len}
use Rattle.std.proofs.lemmas.Bool.{cases_lt, cond-false, cond-true, le-ltb, lt-ltb}
use Rattle.std.proofs.lemmas.List.Folds.{sum_by-replicate}
use Rattle.std.proofs.lemmas.List.Sums.{sum_by-append, sum_by-cons}
use Rattle.tm_game_bits.specs.Inputs.{bit_levels, choice_level, input_levels, number_levels}
use Rattle.tm_game_steps.specs.Changes.{AreApart}
use Rattle.tm_flat.specs.Inputs.{room}
use Rattle.tm_game_bits.specs.Order.{IsOrder, level_in}
use Rattle.tm_game_bits.proofs.Orders.{length_order, level_of_place}

map_agree : {X : Type 0} → (f g : ℕ → X) (a n : ℕ) → ((k : ℕ) → a ≤ k → k < a + n → f k ≡ g k) →
    map f (range_with_len a n) ≡ map g (range_with_len a n)
map_agree f g a zero same = refl
map_agree f g a (suc n) same =
    λ i. same a (omega arith) (omega arith) i
    ∷ map_agree f g (a + 1) n (λ k above below. same k (omega arith) (omega arith)) i

-- the levels of numbers of these widths, by a function of the places
abbrev levels_by : (ℕ → ℕ) → List ℕ → ℕ → List (List ℕ)
levels_by f [] place = []
levels_by f (w ∷ ws) place = map f (range_with_len place w) ∷ levels_by f ws (place + w)

-- the place of a bit of a number
data At : List ℕ → ℕ → ℕ → ℕ → ℕ → Type 0 where
  first : {w : ℕ} {ws : List ℕ} {place a q : ℕ} → a < w → place + a ≡ q → At (w ∷ ws) place 0 a q
  next : {w : ℕ} {ws : List ℕ} {place i a q : ℕ} → At ws (place + w) i a q → At (w ∷ ws) place (suc i) a q

at_above : (ws : List ℕ) (place i a q : ℕ) → At ws place i a q → place ≤ q
at_above [] place i a q x = elim x [ ]
at_above (w ∷ ws) place zero a q (first below is) = omega arith
at_above (w ∷ ws) place (suc i) a q (next rest) = omega (arith, at_above ws (place + w) i a q rest)

-- a place is of one bit
one_bit : (ws : List ℕ) (place i j a b q r : ℕ) → At ws place i a q → At ws place j b r → q ≡ r → (i ≡ j) × (a ≡ b)
one_bit [] place i j a b q r x other same = elim x [ ]
one_bit (w ∷ ws) place zero zero a b q r (first below is) (first other_below other) same = (refl, omega arith)
one_bit (w ∷ ws) place zero (suc j) a b q r (first below is) (next rest) same =
    absurd (omega (arith, at_above ws (place + w) j b r rest))
one_bit (w ∷ ws) place (suc i) zero a b q r (next rest) (first below is) same =
    absurd (omega (arith, at_above ws (place + w) i a q rest))
one_bit (w ∷ ws) place (suc i) (suc j) a b q r (next rest) (next other) same =
    let both = one_bit ws (place + w) i j a b q r rest other same in (ap suc both.0, both.1)

-- each bit has a place
record Placed (f : ℕ → ℕ) (ws : List ℕ) (place i a : ℕ) : Type 0 where
  at : ℕ
  is : At ws place i a at
  below : at < place + sum ws
  level : get_or (get_or (levels_by f ws place) i []) a 0 ≡ f at

placed : (f : ℕ → ℕ) (ws : List ℕ) (place i a : ℕ) → i < length (levels_by f ws place) →
    a < length (get_or (levels_by f ws place) i []) → Placed f ws place i a
placed f [] place i a below inside = absurd (omega arith)
placed f (w ∷ ws) place zero a below inside =
    let within : a < w = omega (arith, inside, length-map-range_with_len f place w) in
    record {
      at = place + a;
      is = first within refl;
      below = omega (arith, sum_by-cons (λ x. x) w ws);
      level = get_or-map-range_with_len f place w a (place + a) 0 within refl;
    }
placed f (w ∷ ws) place (suc i) a below inside =
    let rest = placed f ws (place + w) i a (omega arith) inside in
    record {
      at = rest.at;
      is = next rest.is;
      below = omega (arith, rest.below, sum_by-cons (λ x. x) w ws);
      level = rest.level;
    }

pub apart_by : (f : ℕ → ℕ) (ws : List ℕ) → ((p q : ℕ) → p < sum ws → q < sum ws → f p ≡ f q → p ≡ q) →
    (i j a b : ℕ) → i < length (levels_by f ws 0) → j < length (levels_by f ws 0) →
    a < length (get_or (levels_by f ws 0) i []) → b < length (get_or (levels_by f ws 0) j []) →
    get_or (get_or (levels_by f ws 0) i []) a 0 ≡ get_or (get_or (levels_by f ws 0) j []) b 0 → (i ≡ j) × (a ≡ b)
apart_by f ws apart i j a b below_i below_j below_a below_b same =
    let one = placed f ws 0 i a below_i below_a in
    let other = placed f ws 0 j b below_j below_b in
    one_bit ws 0 i j a b one.at other.at one.is other.is
    (apart one.at other.at (omega (arith, one.below)) (omega (arith, other.below))
    (sym one.level ∙ same ∙ other.level))

-- ---- the levels of all inputs
levels_by-append : (f : ℕ → ℕ) (ws vs : List ℕ) (place : ℕ) →
    levels_by f (ws ++ vs) place ≡ levels_by f ws place ++ levels_by f vs (place + sum ws)
levels_by-append f [] vs place =
    let none : place ≡ place + sum [] = omega arith in ap (levels_by f vs) none
levels_by-append f (w ∷ ws) vs place =
    let all : place + w + sum ws ≡ place + sum (w ∷ ws) = omega (arith, sum_by-cons (λ x. x) w ws) in
    ap (λ ls. map f (range_with_len place w) ∷ ls)
    (levels_by-append f ws vs (place + w)
    ∙ ap (λ k. levels_by f ws (place + w) ++ levels_by f vs k) all)

numbers_by : (f : ℕ → ℕ) (order ws : List ℕ) (place : ℕ) →
    ((q : ℕ) → place ≤ q → q < place + sum ws → f q ≡ level_in order q) →
    levels_by f ws place ≡ number_levels order ws place
numbers_by f order [] place same = refl
numbers_by f order (w ∷ ws) place same =
    let all = sum_by-cons (λ x. x) w ws in
    λ i.
    map_agree f (level_in order) place w (λ q above below. same q above (omega (arith, all))) i
    ∷ numbers_by f order ws (place + w) (λ q above below. same q (omega arith) (omega (arith, all))) i

bits_by : (f : ℕ → ℕ) (place level n : ℕ) →
    ((q : ℕ) → place ≤ q → q < place + n → f q + place ≡ level + q) →
    levels_by f (replicate n 1) place ≡ bit_levels level n
bits_by f place level zero shifted = refl
bits_by f place level (suc n) shifted =
    let here : f place ≡ level = omega (arith, shifted place (omega arith) (omega arith)) in
    λ i.
    (here i ∷ [])
    ∷ bits_by f (place + 1) (level + 1) n
    (λ q above below. omega (arith, shifted q (omega arith) (omega arith))) i

-- the level of each place: bits of choices come before those of arguments among the inputs, and behind them among the
-- levels
place_level : List ℕ → ℕ → ℕ → ℕ
place_level order n q = cond (ltb q n) (level_in order q) (cond (ltb q (n + room)) (q + room) (q - room))

module _ (order : List ℕ) (n : ℕ) where
  in_state : (q : ℕ) → q < n → place_level order n q ≡ level_in order q
  unfolding place_level
  in_state q below =
      cond-true (ltb q n) (level_in order q) (cond (ltb q (n + room)) (q + room) (q - room)) (lt-ltb q n below)

  in_choices : (q : ℕ) → n ≤ q → q < n + room → place_level order n q ≡ q + room
  unfolding place_level
  in_choices q above below =
      cond-false (ltb q n) (level_in order q) (cond (ltb q (n + room)) (q + room) (q - room)) (le-ltb q n above)
      ∙ cond-true (ltb q (n + room)) (q + room) (q - room) (lt-ltb q (n + room) below)

  in_arguments : (q : ℕ) → n + room ≤ q → place_level order n q ≡ q - room
  unfolding place_level
  in_arguments q above =
      cond-false (ltb q n) (level_in order q) (cond (ltb q (n + room)) (q + room) (q - room)) (le-ltb q n (omega arith))
      ∙ cond-false (ltb q (n + room)) (q + room) (q - room) (le-ltb q (n + room) above)

  -- which of the three a place is of
  data Part (q : ℕ) : Type 0 where
    of_state : q < n → Part q
    of_choices : n ≤ q → q < n + room → Part q
    of_arguments : n + room ≤ q → Part q

  part : (q : ℕ) → Part q
  part q =
      elim (cases_lt q n) as (λ _. Part q) [
        | inl below ↦ of_state below
        | inr above ↦
            elim (cases_lt q (n + room)) as (λ _. Part q) [
              | inl within ↦ of_choices above within
              | inr past ↦ of_arguments past
            ]
      ]

  module _ (is : IsOrder n order) where
    places_apart : (p q : ℕ) → p < n + room + room → q < n + room + room →
        place_level order n p ≡ place_level order n q → p ≡ q
    places_apart p q below_p below_q same = by (part p) (part q)
      where
        long : length order ≡ n
        long = length_order n order is

        by : Part p → Part q → p ≡ q
        by (of_state h) (of_state k) =
            let one = level_of_place n order is p h in
            let other = level_of_place n order is q k in
            let levels = sym (in_state p h) ∙ same ∙ in_state q k in
            sym one.at ∙ ap (λ l. get_or order l 0) levels ∙ other.at
        by (of_state h) (of_choices k l) =
            let one = level_of_place n order is p h in
            absurd (omega (arith, one.below, long, sym (in_state p h) ∙ same ∙ in_choices q k l))
        by (of_state h) (of_arguments k) =
            let one = level_of_place n order is p h in
            absurd (omega (arith, one.below, long, sym (in_state p h) ∙ same ∙ in_arguments q k))
        by (of_choices h i) (of_state k) =
            let other = level_of_place n order is q k in
            absurd (omega (arith, other.below, long, sym (in_choices p h i) ∙ same ∙ in_state q k))
        by (of_choices h i) (of_choices k l) = omega (arith, sym (in_choices p h i) ∙ same ∙ in_choices q k l)
        by (of_choices h i) (of_arguments k) =
            absurd (omega (arith, sym (in_choices p h i) ∙ same ∙ in_arguments q k))
        by (of_arguments h) (of_state k) =
            let other = level_of_place n order is q k in
            absurd (omega (arith, other.below, long, sym (in_arguments p h) ∙ same ∙ in_state q k))
        by (of_arguments h) (of_choices k l) =
            absurd (omega (arith, sym (in_arguments p h) ∙ same ∙ in_choices q k l))
        by (of_arguments h) (of_arguments k) = omega (arith, sym (in_arguments p h) ∙ same ∙ in_arguments q k)

-- the levels of all inputs are those of the places
levels_are : (order ws : List ℕ) → IsOrder (sum ws) order →
    levels_by (place_level order (sum ws)) (ws ++ replicate room 1 ++ replicate room 1) 0 ≡ input_levels order ws
levels_are order ws is =
    let n = sum ws in
    let f = place_level order (sum ws) in
    let long = length_order (sum ws) order is in
    let bits : sum (replicate room 1) ≡ room = sum_by-replicate (λ (x : ℕ). x) room 1 ∙ omega arith in
    let more : sum (ws ++ replicate room 1) ≡ sum ws + room =
    sum_by-append (λ (x : ℕ). x) ws (replicate room 1) ∙ ap (λ k. sum ws + k) bits in
    levels_by-append (place_level order (sum ws)) (ws ++ replicate room 1) (replicate room 1) 0
    ∙ (λ i.
    levels_by-append (place_level order (sum ws)) ws (replicate room 1) 0 i
    ++ bits_by (place_level order (sum ws)) (0 + sum (ws ++ replicate room 1)) (length order) room
    (λ q above below.
    omega (arith, long, more, above, in_arguments order (sum ws) q (omega (arith, more, above)))) i)
    ∙ (λ i.
    numbers_by (place_level order (sum ws)) order ws 0
    (λ q above below. in_state order (sum ws) q (omega (arith, below))) i
    ++ bits_by (place_level order (sum ws)) (0 + sum ws) (choice_level order) room
    (λ q above below.
    omega
    (arith, long, above, below, in_choices order (sum ws) q (omega (arith, above)) (omega (arith, below)))) i
    ++ bit_levels (length order) room)

-- no level is of two bits of the inputs
pub levels_apart : (order ws : List ℕ) → IsOrder (sum ws) order → AreApart (input_levels order ws)
levels_apart order ws is =
    let bits : sum (replicate room 1) ≡ room = sum_by-replicate (λ (x : ℕ). x) room 1 ∙ omega arith in
    let more : sum (ws ++ replicate room 1 ++ replicate room 1) ≡ sum ws + room + room =
    sum_by-append (λ (x : ℕ). x) (ws ++ replicate room 1) (replicate room 1)
    ∙ (λ i. (sum_by-append (λ (x : ℕ). x) ws (replicate room 1) ∙ ap (λ k. sum ws + k) bits) i + bits i) in
    subst AreApart (levels_are order ws is)
    (apart_by (place_level order (sum ws)) (ws ++ replicate room 1 ++ replicate room 1)
    (λ p q below_p below_q same.
    places_apart order (sum ws) is p q (omega (arith, more, below_p)) (omega (arith, more, below_q)) same))

-- Levels that are given bits, and all other levels left as they are.
use Rattle.std.proofs.Common.{◌≡◌, ℕ, zero, suc, ◌+◌, ◌-◌, ◌<◌, ◌≤◌, Bool, false, cond, eqb, leb, ltb, List, ◌∷◌, get_or, map, inl, inr, refl, sym, ap, ◌∙◌, arith}
use Rattle.std.specs.Prelude.{Contains, ◌&&◌}
use Rattle.std.specs.List.{range_with_len}
use Rattle.std.proofs.lemmas.Bool.{and_from, and_left, and_right, cases_lt, cond-false, cond-true, le-leb, le-ltb, lt-leb, lt-ltb}
use Rattle.std.proofs.lemmas.List.{ext_get_or}
use Rattle.std.proofs.lemmas.List.FromFn.{get_or-map-range_with_len, get_or-range_with_len, length-map-range_with_len, length-range_with_len}
use Rattle.tm_base.specs.Arithmetic.{bit}
use Rattle.tm_ddops.specs.Quantified.{AgreeElsewhere}
use Rattle.tm_flat.specs.Inputs.{room, AreBits}
use Rattle.tm_game_bits.specs.Inputs.{bits_at}

-- the numbers of a range
pub range_within : (a n k : ℕ) → Contains (range_with_len a n) k → (a ≤ k) × (k < a + n)
range_within a n k there =
    let below : there.0 < n = omega (arith, there.1, length-range_with_len a n) in
    let is : a + there.0 ≡ k = sym (get_or-range_with_len a n there.0 k below) ∙ there.2 in
    (omega arith, omega arith)

pub range_has : (a n k : ℕ) → a ≤ k → k < a + n → Contains (range_with_len a n) k
range_has a n k above below =
    let here : k - a < n = omega arith in
    let is : a + (k - a) ≡ k = omega arith in
    (k - a, omega (arith, length-range_with_len a n), get_or-range_with_len a n (k - a) k here ∙ is)

map_agree : {X : Type 0} → (f g : ℕ → X) (a n : ℕ) → ((k : ℕ) → a ≤ k → k < a + n → f k ≡ g k) →
    map f (range_with_len a n) ≡ map g (range_with_len a n)
map_agree f g a zero same = refl
map_agree f g a (suc n) same =
    λ i. same a (omega arith) (omega arith) i
    ∷ map_agree f g (a + 1) n (λ k above below. same k (omega arith) (omega arith)) i

-- bits are the same where the levels are
pub bits_agree : (v w : ℕ → Bool) (a n : ℕ) → ((k : ℕ) → a ≤ k → k < a + n → v k ≡ w k) → bits_at v a n ≡ bits_at w a n
bits_agree v w a n same = map_agree (λ k. bit (v k)) (λ k. bit (w k)) a n (λ k above below. ap bit (same k above below))

-- the levels from one on, as many as the room has, with these bits
pub with_bits : ℕ → List ℕ → (ℕ → Bool) → ℕ → Bool
with_bits a bits v k = cond (leb a k && ltb k (a + room)) (eqb (get_or bits (k - a) 0) 1) (v k)

-- all other levels are as they were
pub with_bits-elsewhere : (a : ℕ) (bits : List ℕ) (v : ℕ → Bool) →
    AgreeElsewhere (range_with_len a room) v (with_bits a bits v)
unfolding with_bits
with_bits-elsewhere a bits v k absent =
    cond-false (leb a k && ltb k (a + room)) (eqb (get_or bits (k - a) 0) 1) (v k)
    (elim (cases_lt k a) as (λ _. (leb a k && ltb k (a + room)) ≡ false) [
      | inl below ↦ and_left (leb a k) (ltb k (a + room)) (lt-leb a k below)
      | inr above ↦
          elim (cases_lt k (a + room)) as (λ _. (leb a k && ltb k (a + room)) ≡ false) [
            | inl within ↦ absurd (absent (range_has a room k above within))
            | inr past ↦ and_right (leb a k) (ltb k (a + room)) (le-ltb k (a + room) past)
          ]
    ])

bit_back : (n : ℕ) → n < 2 → bit (eqb n 1) ≡ n
bit_back zero small = refl
bit_back (suc zero) small = refl
bit_back (suc (suc n)) small = absurd (omega arith)

with_bits-there : (a : ℕ) (bits : List ℕ) (v : ℕ → Bool) (i : ℕ) → i < room →
    with_bits a bits v (a + i) ≡ eqb (get_or bits i 0) 1
unfolding with_bits
with_bits-there a bits v i below =
    let same : a + i - a ≡ i = omega arith in
    cond-true (leb a (a + i) && ltb (a + i) (a + room)) (eqb (get_or bits (a + i - a) 0) 1) (v (a + i))
    (and_from (leb a (a + i)) (ltb (a + i) (a + room)) (le-leb a (a + i) (omega arith))
    (lt-ltb (a + i) (a + room) (omega arith)))
    ∙ ap (λ k. eqb (get_or bits k 0) 1) same

-- the levels give these bits
pub with_bits-are : (a : ℕ) (bits : List ℕ) (v : ℕ → Bool) → AreBits bits →
    bits_at (with_bits a bits v) a room ≡ bits
with_bits-are a bits v are =
    let long = length-map-range_with_len (λ k. bit (with_bits a bits v k)) a room in
    ext_get_or 0 (bits_at (with_bits a bits v) a room) bits (long ∙ sym are.count)
    (λ i below.
    let within : i < room = omega (arith, below, long) in
    get_or-map-range_with_len (λ k. bit (with_bits a bits v k)) a room i (a + i) 0 within refl
    ∙ ap bit (with_bits-there a bits v i within)
    ∙ bit_back (get_or bits i 0) (are.each i))

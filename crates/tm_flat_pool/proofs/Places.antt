-- The bits of numbers by place.
use Rattle.std.proofs.Common.{◌≡◌, ℕ, zero, suc, ◌+◌, ◌-◌, ◌/◌, ◌%◌, ◌^◌, ◌<◌, ◌≤◌, ◌==◌, Bool, true, false, List, [], ◌∷◌, ◌++◌, get_or-append-add, length, map, take, slice_index, refl, ap, ◌∙◌, subst, arith}
use Rattle.std.specs.Prelude.{slice_index_or, sum}
use Rattle.std.specs.List.{AllZip, filter, range_with_len}
use Rattle.std.proofs.lemmas.Bool.{cond-true}
use Rattle.std.proofs.lemmas.List.Elements.{filter-append}
use Rattle.std.proofs.lemmas.List.Sums.{sum_by-cons}
use Rattle.tm_base.specs.Arithmetic.{bit}
use Rattle.tm_base.specs.Bits.{bits_of}
use Rattle.tm_sem.specs.StateBits.{bits_of_numbers, downwards}

pub range_split : (a n m : ℕ) → range_with_len a (n + m) ≡ range_with_len a n ++ range_with_len (a + n) m
range_split a zero m =
    let none : zero + m ≡ m = omega arith in
    let here : a ≡ a + zero = omega arith in
    λ i. range_with_len (here i) (none i)
range_split a (suc n) m =
    let count : suc n + m ≡ suc (n + m) = omega arith in
    let start : a + 1 + n ≡ a + suc n = omega arith in
    ap (λ k. range_with_len a k) count
    ∙ ap (λ xs. a ∷ xs) (range_split (a + 1) n m)
    ∙ ap (λ k. a ∷ (range_with_len (a + 1) n ++ range_with_len k m)) start

-- ---- where the bits of a number begin
-- the bits of a number end before those of each later one
pub sums_rise : (ws : List ℕ) (i k : ℕ) → i < k → sum (take i ws) + slice_index ws i ≤ sum (take k ws)
sums_rise [] zero zero before = absurd (omega (arith, before))
sums_rise [] zero (suc k) before = omega arith
sums_rise [] (suc i) zero before = absurd (omega (arith, before))
sums_rise [] (suc i) (suc k) before = omega arith
sums_rise (w ∷ ws) zero zero before = absurd (omega (arith, before))
sums_rise (w ∷ ws) zero (suc k) before = omega (arith, sum_by-cons (λ (x : ℕ). x) w (take k ws))
sums_rise (w ∷ ws) (suc i) zero before = absurd (omega (arith, before))
sums_rise (w ∷ ws) (suc i) (suc k) before =
    let rest = sums_rise ws i k (omega (arith, before)) in
    omega (arith, rest, sum_by-cons (λ (x : ℕ). x) w (take k ws), sum_by-cons (λ (x : ℕ). x) w (take i ws))

-- ---- the bit of a place
length-bits_of : (w n : ℕ) → length (bits_of w n) ≡ w
length-bits_of zero n = refl
length-bits_of (suc w) n = let rest = length-bits_of w n in omega (arith, rest)

-- whether the bit of a weight of a number is set
abbrev pub is_set : ℕ → ℕ → Bool
is_set n weight = n / 2 ^ weight % 2 == 1

bit_within : (w n j : ℕ) (rest : List Bool) → j < w →
    slice_index_or (bits_of w n ++ rest) j false ≡ is_set n (w - 1 - j)
bit_within zero n j rest below = absurd (omega (arith, below))
bit_within (suc w) n zero rest below = let at : w ≡ suc w - 1 - zero = omega arith in ap (is_set n) at
bit_within (suc w) n (suc j) rest below =
    let at : w - 1 - j ≡ suc w - 1 - suc j = omega arith in
    bit_within w n j rest (omega (arith, below)) ∙ ap (is_set n) at

pub bit_there : (ws ns : List ℕ) (i j : ℕ) → length ns ≡ length ws → i < length ws → j < slice_index ws i →
    slice_index_or (bits_of_numbers ws ns) (sum (take i ws) + j) false
    ≡ is_set (slice_index ns i) (slice_index ws i - 1 - j)
bit_there [] ns i j long inside below = absurd (omega (arith, inside))
bit_there (w ∷ ws) [] i j long inside below = absurd (omega (arith, long))
bit_there (w ∷ ws) (n ∷ ns) zero j long inside below =
    let at : 0 + j ≡ j = omega arith in
    ap (λ k. slice_index_or (bits_of w n ++ bits_of_numbers ws ns) k false) at
    ∙ bit_within w n j (bits_of_numbers ws ns) below
bit_there (w ∷ ws) (n ∷ ns) (suc i) j long inside below =
    let all = sum_by-cons (λ (x : ℕ). x) w (take i ws) in
    let first = length-bits_of w n in
    let at : sum (take (suc i) (w ∷ ws)) + j ≡ length (bits_of w n) + (sum (take i ws) + j) =
    omega (arith, all, first) in
    ap (λ k. slice_index_or (bits_of w n ++ bits_of_numbers ws ns) k false) at
    ∙ get_or-append-add (bits_of w n) (bits_of_numbers ws ns) (sum (take i ws) + j) false
    ∙ bit_there ws ns i j (omega (arith, long)) (omega (arith, inside)) below

pub bit_of_set : (x : ℕ) → x < 2 → bit (x == 1) ≡ x
bit_of_set zero below = refl
bit_of_set (suc zero) below = refl
bit_of_set (suc (suc x)) below = absurd (omega (arith, below))

-- ---- places that pass a test
pub all_pass : (p : ℕ → Bool) (start n : ℕ) → ((j : ℕ) → j < n → p (start + j) ≡ true) →
    filter p (range_with_len start n) ≡ range_with_len start n
all_pass p start zero each = refl
all_pass p start (suc n) each =
    let here : start + 0 ≡ start = omega arith in
    let first : p start ≡ true = subst (λ k. p k ≡ true) here (each 0 (omega arith)) in
    let rest = filter p (range_with_len (start + 1) n) in
    cond-true (p start) (start ∷ rest) rest first
    ∙ ap (λ xs. start ∷ xs) (all_pass p (start + 1) n (λ j below.
    let there : start + suc j ≡ start + 1 + j = omega arith in
    subst (λ k. p k ≡ true) there (each (suc j) (omega (arith, below)))))

pub passing_split : (p : ℕ → Bool) (n m : ℕ) →
    filter p (range_with_len 0 (n + m)) ≡ filter p (range_with_len 0 n) ++ filter p (range_with_len n m)
passing_split p n m =
    let here : 0 + n ≡ n = omega arith in
    ap (filter p) (range_split 0 n m)
    ∙ filter-append p (range_with_len 0 n) (range_with_len (0 + n) m)
    ∙ ap (λ k. filter p (range_with_len 0 n) ++ filter p (range_with_len k m)) here

-- what goes along with weights, from the greatest on, goes along with places, from the first one on
pub by_place : {X Y : Type 0} (R : ℕ → X → Type 0) (S : Y → X → Type 0) (f : ℕ → Y) (w start : ℕ) (xs : List X) →
    ((j : ℕ) (x : X) → j < w → R (w - 1 - j) x → S (f (start + j)) x) → AllZip R (downwards w) xs →
    AllZip S (map f (range_with_len start w)) xs
by_place R S f zero start [] turns all = tt
by_place R S f zero start (x ∷ xs) turns all = absurd all
by_place R S f (suc w) start [] turns all = absurd all
by_place R S f (suc w) start (x ∷ xs) turns all =
    let weight : w ≡ suc w - 1 - 0 = omega arith in
    let here : start + 0 ≡ start = omega arith in (
      subst (λ k. S (f k) x) here (turns 0 x (omega arith) (subst (λ k. R k x) weight all.0)),
      by_place R S f w (start + 1) xs (λ j y below is.
          let later : w - 1 - j ≡ suc w - 1 - suc j = omega arith in
          let there : start + suc j ≡ start + 1 + j = omega arith in
          subst (λ k. S (f k) y) there (turns (suc j) y (omega (arith, below)) (subst (λ k. R k y) later is))) all.1,
    )

-- Bits in which a number is written from a position on.
use Rattle.std.proofs.Common.{◌≡◌, ℕ, zero, suc, ◌+◌, ◌^◌, ◌<◌, ◌≤◌, ◌≢◌, Bool, true, false, List, [], ◌∷◌, map, length, refl, sym, ap, ◌∙◌, arith, eq-eqb, ne_eqb, le_refl}
use Rattle.std.specs.Prelude.{nat_eq, if◌then◌else◌}
use Rattle.std.specs.List.{range_with_len}
use Rattle.tm_base.specs.Bits.{number_of, bits_of}
use Rattle.tm_base.proofs.NumberBits.{number_is_its_bits}
use Rattle.tm_flat.specs.BitRun.{number_at}

-- some bits from a position on, and behind them the given ones
abbrev pub written : List Bool → ℕ → (ℕ → Bool) → ℕ → Bool
written [] k given p = given p
written (b ∷ bits) k given p = if nat_eq p k then b else written bits (k + 1) given p

differs : (p k : ℕ) → k + 1 ≤ p → nat_eq p k ≡ false
differs p k h = let other : p ≢ k = omega arith in ne_eqb p k other

same_place : (k : ℕ) → nat_eq k k ≡ true
same_place k = eq-eqb k k refl

-- the given bits stand behind them
written_behind : (bits : List Bool) (k : ℕ) (given : ℕ → Bool) (p : ℕ) → k + length bits ≤ p →
    written bits k given p ≡ given p
written_behind [] k given p h = refl
written_behind (b ∷ bits) k given p h =
    let e : nat_eq p k ≡ false = differs p k (omega arith) in
    rw e (written_behind bits (k + 1) given p (omega arith))

-- they are what is read
written_are_read : (bits : List Bool) (k : ℕ) (given b : ℕ → Bool) →
    ((p : ℕ) → k ≤ p → b p ≡ written bits k given p) → map b (range_with_len k (length bits)) ≡ bits
written_are_read [] k given b same = refl
written_are_read (x ∷ bits) k given b same =
    let here : b k ≡ x = same k (le_refl k) ∙ ap (λ c. if c then x else written bits (k + 1) given k) (same_place k) in
    let others : map b (range_with_len (k + 1) (length bits)) ≡ bits =
    written_are_read bits (k + 1) given b
    (λ p h. same p (omega arith) ∙ ap (λ c. if c then x else written bits (k + 1) given p) (differs p k h)) in
    cc

count : (w n : ℕ) → length (bits_of w n) ≡ w
count zero n = refl
count (suc w) n = omega (arith, count w n)

-- a number that is written so
abbrev pub with_number : ℕ → ℕ → ℕ → (ℕ → Bool) → ℕ → Bool
with_number k w n given = written (bits_of w n) k given

pub with_number_behind : (k w n : ℕ) (given : ℕ → Bool) (p : ℕ) → k + w ≤ p → with_number k w n given p ≡ given p
with_number_behind k w n given p h = written_behind (bits_of w n) k given p (omega (arith, count w n))

pub with_number_read : (k w n : ℕ) (given b : ℕ → Bool) → n < 2 ^ w →
    ((p : ℕ) → k ≤ p → b p ≡ with_number k w n given p) → number_at b k w ≡ n
with_number_read k w n given b below same =
    ap (λ c. number_of (map b (range_with_len k c))) (sym (count w n))
    ∙ ap number_of (written_are_read (bits_of w n) k given b same)
    ∙ number_is_its_bits w n below

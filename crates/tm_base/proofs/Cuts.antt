-- What a mask does, and that an operation of more bits, cut to fewer, is the operation of those.
use Rattle.std.proofs.Common.{◌≡◌, ℕ, suc, ◌+◌, ◌-◌, ◌*◌, ◌/◌, ◌%◌, ◌^◌, ◌<◌, ◌≤◌, ap, ◌∙◌, subst, arith}
use Rattle.std.specs.Prelude.{bit_and}
use Rattle.std.proofs.Math.Nat.{add-mul-mod_self_right, mod-eq_of_lt}
use Rattle.std.proofs.Math.Pow.{mod-mod-pow}
use Rattle.std.proofs.lemmas.Nat.{pow_pos, pow-add, and_mask}
use Rattle.std.proofs.lemmas.Nat.Bits.{ones_shr}
use Rattle.tm_base.specs.Arithmetic.{greatest, resize, complement, sum, difference, shift_left}

-- ---- masks
-- a mask is the greatest number of a word, shifted to the right
pub greatest-shr : (w : ℕ) → w ≤ 64 → (2 ^ 64 - 1) / 2 ^ (64 - w) ≡ greatest w
greatest-shr w h =
    let e : 64 - (64 - w) ≡ w = omega arith in
    ones_shr 64 (64 - w) (omega arith) ∙ ap (λ k. 2 ^ k - 1) e

-- a mask keeps the low bits
pub bit_and-greatest : (w a : ℕ) → bit_and a (greatest w) ≡ resize w a
bit_and-greatest w a = and_mask a w

-- a number of the width stays
pub resize-same : (w a : ℕ) → a < 2 ^ w → resize w a ≡ a
resize-same w a h = mod-eq_of_lt h

-- a number that is cut to more bits and then to fewer
pub resize-resize : (m w a : ℕ) → w ≤ m → resize w (resize m a) ≡ resize w a
resize-resize m w a h =
    let e : (m - w) + w ≡ m = omega arith in
    subst (λ k. a % 2 ^ k % 2 ^ w ≡ a % 2 ^ w) e (mod-mod-pow a (m - w) w)

-- ---- operations of more bits, cut
pub resize-sum : (m w a b : ℕ) → w ≤ m → resize w (sum m a b) ≡ sum w a b
resize-sum m w a b h = resize-resize m w (a + b) h

pub resize-shift_left : (m w a by : ℕ) → w ≤ m → resize w (shift_left m a by) ≡ shift_left w a by
resize-shift_left m w a by h = resize-resize m w (a * 2 ^ by) h

-- what is taken from a multiple of p, but for multiples of p
taken_from : (a b p q : ℕ) → b ≤ p → a + (suc q * p - b) ≡ (a + (p - b)) + q * p
taken_from a b p q h = omega arith

-- a power of more digits, as a multiple of one of fewer
power_of_more : (j k : ℕ) → 2 ^ (j + k) ≡ suc (2 ^ j - 1) * 2 ^ k
power_of_more j k =
    let one_more : 2 ^ j ≡ suc (2 ^ j - 1) = omega (arith, pow_pos j) in
    pow-add 2 j k ∙ ap (λ m. m * 2 ^ k) one_more

difference_cut : (a b j k : ℕ) → b ≤ 2 ^ k → (a + (2 ^ (j + k) - b)) % 2 ^ (j + k) % 2 ^ k ≡ (a + (2 ^ k - b)) % 2 ^ k
difference_cut a b j k h =
    mod-mod-pow (a + (2 ^ (j + k) - b)) j k
    ∙ ap (λ m. (a + (m - b)) % 2 ^ k) (power_of_more j k)
    ∙ ap (λ m. m % 2 ^ k) (taken_from a b (2 ^ k) (2 ^ j - 1) h)
    ∙ add-mul-mod_self_right (a + (2 ^ k - b)) (2 ^ j - 1) (2 ^ k)

pub resize-difference : (m w a b : ℕ) → w ≤ m → b < 2 ^ w → resize w (difference m a b) ≡ difference w a b
resize-difference m w a b h below =
    let e : (m - w) + w ≡ m = omega arith in
    subst (λ k. (a + (2 ^ k - b)) % 2 ^ k % 2 ^ w ≡ (a + (2 ^ w - b)) % 2 ^ w) e
    (difference_cut a b (m - w) w (omega arith))

complement_cut : (a j k : ℕ) → a < 2 ^ k → (2 ^ (j + k) - 1 - a) % 2 ^ k ≡ 2 ^ k - 1 - a
complement_cut a j k h =
    let one_less : suc (2 ^ j - 1) * 2 ^ k - 1 - a ≡ (2 ^ k - 1 - a) + (2 ^ j - 1) * 2 ^ k = omega (arith, pow_pos k) in
    ap (λ m. (m - 1 - a) % 2 ^ k) (power_of_more j k)
    ∙ ap (λ m. m % 2 ^ k) one_less
    ∙ add-mul-mod_self_right (2 ^ k - 1 - a) (2 ^ j - 1) (2 ^ k)
    ∙ mod-eq_of_lt (omega (arith, pow_pos k))

pub resize-complement : (m w a : ℕ) → w ≤ m → a < 2 ^ w → resize w (complement m a) ≡ complement w a
resize-complement m w a h below =
    let e : (m - w) + w ≡ m = omega arith in
    subst (λ k. (2 ^ k - 1 - a) % 2 ^ w ≡ 2 ^ w - 1 - a) e (complement_cut a (m - w) w below)

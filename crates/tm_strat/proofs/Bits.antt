-- The bits of a number that is made of bits, the most significant first.
use Rattle.std.proofs.Common.{◌≡◌, ◌⊎◌, inl, inr, ℕ, suc, ◌+◌, ◌-◌, ◌*◌, ◌/◌, ◌%◌, ◌^◌, ◌<◌, ◌≤◌, ◌==◌, Bool}
use Rattle.std.proofs.Common.{true, false, List, get_or, refl, sym, ap, ◌∙◌, subst, arith}
use Rattle.std.proofs.Math.Nat.{div-div-eq-div-mul, div-one, pow-le-pow_right, pow-suc}
use Rattle.std.proofs.lemmas.Bool.{cases_lt}
use Rattle.tm_base.specs.Arithmetic.{bit}
use Rattle.tm_base.specs.Bits.{bits_of}
use Rattle.tm_strat.proofs.Parts.{bit_is}
use Rattle.tm_game.proofs.Reading.{bit_of}
use Rattle.tm_strat.specs.Constants.{AreBitsFrom, AreFirstBits}
use mir.Val.{bool_byte}

bit_back : (b : Bool) → (bit b == 1) ≡ b
bit_back true = refl
bit_back false = refl

bit_small : (b : Bool) → bit b < 2
bit_small true = omega arith
bit_small false = omega arith

-- a bit as the code has it
pub byte_is : (b : Bool) (n : ℕ) → n ≡ bool_byte b → n ≡ bit b
byte_is b n is = is ∙ bit_of b

pub byte_small : (b : Bool) (n : ℕ) → n ≡ bool_byte b → n < 2
byte_small b n is = let small = bit_small b in let same = byte_is b n is in omega (arith, small, same)

-- one bit more moves all weights
moved : (bits e : ℕ) (b : Bool) → (bits * 2 + bit b) / 2 ^ suc e ≡ bits / 2 ^ e
moved bits e b =
    ap (λ n. (bits * 2 + bit b) / n) (pow-suc 2 e ∙ two)
    ∙ sym (div-div-eq-div-mul (bits * 2 + bit b) 2 (2 ^ e))
    ∙ ap (λ n. n / 2 ^ e) half
  where
    two : 2 ^ e * 2 ≡ 2 * 2 ^ e
    two = omega arith

    half : (bits * 2 + bit b) / 2 ≡ bits
    half = let small = bit_small b in omega (arith, small)

-- fewer than 64 bits leave room for one more
pub bits_below : (n : ℕ) → n < 64 → 2 ^ n ≤ 2 ^ 63
bits_below n below =
    let two : 0 < 2 = omega arith in let fits : n ≤ 63 = omega (arith, below) in pow-le-pow_right two fits

pub bits_none : (values : List Bool) (first : ℕ) → AreFirstBits values first 0 0
bits_none values first = record { below = omega arith; each = λ k under. absurd (omega arith) }

pub bits_more : (values : List Bool) (first n bits more : ℕ) (b : Bool) → AreFirstBits values first n bits →
    b ≡ get_or values (first + n) false → more ≡ bits * 2 + bit b → AreFirstBits values first (n + 1) more
bits_more values first n bits more b are here is = record {
  below = omega (arith, is, bit_small b, are.below, pow-suc 2 n, one);
  each = λ k under. each k under (cases_lt k n);
}
  where
    one : 2 ^ (n + 1) ≡ 2 ^ suc n
    one = ap (λ m. 2 ^ m) (omega arith)

    each : (k : ℕ) → k < n + 1 → (k < n) ⊎ (n ≤ k) →
        get_or (bits_of (n + 1) more) k false ≡ get_or values (first + k) false
    each k under (inl before) =
        let weight : n + 1 - 1 - k ≡ suc (n - 1 - k) = omega (arith, before) in
        bit_is (n + 1) more k under
        ∙ (λ i. is i / 2 ^ weight i % 2 == 1)
        ∙ ap (λ m. m % 2 == 1) (moved bits (n - 1 - k) b)
        ∙ sym (bit_is n bits k before)
        ∙ are.each k before
    each k under (inr last) =
        let weight : n + 1 - 1 - k ≡ 0 = omega (arith, last) in
        let place : n ≡ k = omega (arith, last, under) in
        bit_is (n + 1) more k under
        ∙ (λ i. is i / 2 ^ weight i % 2 == 1)
        ∙ ap (λ m. m % 2 == 1) (div-one (bits * 2 + bit b))
        ∙ ap (λ m. m == 1) lowest
        ∙ bit_back b
        ∙ here
        ∙ ap (λ m. get_or values (first + m) false) place
      where
        lowest : (bits * 2 + bit b) % 2 ≡ bit b
        lowest = let small = bit_small b in omega (arith, small)

pub bits_all : (values : List Bool) (first n bits : ℕ) → n ≡ 64 → AreFirstBits values first n bits →
    AreBitsFrom values first bits
bits_all values first n bits all are = record {
  each = λ k under.
      subst (λ (w : ℕ). get_or (bits_of w bits) k false ≡ get_or values (first + k) false) all
      (are.each k (omega (arith, all, under)));
}

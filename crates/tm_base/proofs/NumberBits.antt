-- A number is the number of its bits.
use Rattle.std.proofs.Common.{◌≡◌, ℕ, zero, suc, ◌+◌, ◌*◌, ◌/◌, ◌%◌, ◌^◌, ◌<◌, Bool, true, false, List, [], ◌∷◌, length, refl, sym, ap, ◌∙◌, arith}
use Rattle.std.specs.Prelude.{◌==◌}
use Rattle.std.proofs.Math.Nat.{mod-eq_of_lt}
use Rattle.std.proofs.lemmas.Nat.{mod-pow-add}
use Rattle.tm_base.specs.Arithmetic.{bit}
use Rattle.tm_base.specs.Bits.{number_of, bits_of}

length-bits_of : (w n : ℕ) → length (bits_of w n) ≡ w
length-bits_of zero n = refl
length-bits_of (suc w) n = omega (arith, length-bits_of w n)

-- the number of a digit of base two
bit-digit : (r : ℕ) → r < 2 → bit (r == 1) ≡ r
bit-digit zero below = refl
bit-digit (suc zero) below = refl
bit-digit (suc (suc r)) below = absurd (omega arith)

number_of-bits_of : (w n : ℕ) → number_of (bits_of w n) ≡ n % 2 ^ w
number_of-bits_of zero n = omega arith
number_of-bits_of (suc w) n =
    let one_more : 1 + w ≡ suc w = omega arith in
    let digit : bit (n / 2 ^ w % 2 == 1) ≡ n / 2 ^ w % 2 = bit-digit (n / 2 ^ w % 2) (omega arith) in
    (λ i. digit i * 2 ^ length-bits_of w n i + number_of-bits_of w n i)
    ∙ sym (mod-pow-add n 1 w)
    ∙ ap (λ k. n % 2 ^ k) one_more

pub number_is_its_bits : (w n : ℕ) → n < 2 ^ w → number_of (bits_of w n) ≡ n
number_is_its_bits w n below = number_of-bits_of w n ∙ mod-eq_of_lt below

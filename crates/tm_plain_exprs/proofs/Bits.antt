-- Tests of the bits of numbers.
use Rattle.std.proofs.Common.{◌≡◌, ℕ, zero, suc, ◌*◌, ◌/◌, ◌^◌, ◌<◌, ◌≤◌, Bool, true, false, refl, sym, ap, subst, arith, zero-add}
use Rattle.std.specs.Prelude.{nat_eq, nat_le, nat_lt}
use Rattle.std.proofs.Math.Nat.{one-le-pow, pow-le-pow_right}
use Rattle.std.proofs.lemmas.Bool.{ltb-true, ltb-false}
use Rattle.std.proofs.lemmas.Bool.Decides.{nat_tests}
use Rattle.std.proofs.lemmas.Nat.{shr_below}

-- a number of which nothing is left behind its low bits has no others
no_more : (n k : ℕ) → n / 2 ^ k ≡ 0 → n < 2 ^ k
no_more n k none =
    let positive : 1 ≤ 2 ^ k = one-le-pow k 2 (omega arith) in
    let product : 2 ^ k * (n / 2 ^ k) ≡ 2 ^ k * 0 = ap (λ q. 2 ^ k * q) none in
    omega (arith, product, positive)

none_left : (n k : ℕ) → n < 2 ^ k → n / 2 ^ k ≡ 0
none_left n k less =
    let below : n / 2 ^ k < 2 ^ 0 = shr_below n 0 k (subst (λ j. n < 2 ^ j) (sym (zero-add k)) less) in omega arith

pub bits_test : (n k : ℕ) → nat_eq (n / 2 ^ k) 0 ≡ nat_lt n (2 ^ k)
bits_test n k = by (nat_lt n (2 ^ k)) refl
  where
    some : (q : ℕ) → n / 2 ^ k ≡ q → 2 ^ k ≤ n → nat_eq q 0 ≡ false
    some zero none more = let less = no_more n k none in absurd (omega (arith, less))
    some (suc q) is more = grind (arith, nat_tests)

    by : (b : Bool) → nat_lt n (2 ^ k) ≡ b → nat_eq (n / 2 ^ k) 0 ≡ b
    by true is = ap (λ q. nat_eq q 0) (none_left n k (ltb-true n (2 ^ k) is))
    by false is = some (n / 2 ^ k) refl (ltb-false n (2 ^ k) is)

-- numbers of 64 bits have no more
pub wide_test : (n k : ℕ) → n < 2 ^ 64 → 64 ≤ k → nat_le 64 k ≡ nat_lt n (2 ^ k)
wide_test n k less wide =
    let two : 0 < 2 = omega arith in
    let more : 2 ^ 64 ≤ 2 ^ k = pow-le-pow_right two wide in grind (arith, nat_tests)

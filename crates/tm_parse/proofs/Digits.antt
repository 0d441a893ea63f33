-- The numbers that digits write, as far as they fit.
use Rattle.std.proofs.Common.{◌≡◌, ℕ, ◌+◌, ◌*◌, ◌^◌, ◌<◌, ◌≤◌, Some, None, List, length, get_or, take, sym, ap, ◌∙◌, arith}
use Rattle.std.specs.Char.{digit_value}
use Rattle.std.specs.Str.Parse.{digits_value}
use Rattle.std.proofs.lemmas.Bool.Decides.{nat_tests}
use Rattle.std.proofs.lemmas.Int.Digits.{digits_value_more}
use Rattle.std.proofs.lemmas.List.{take_all}
use Rattle.std.proofs.lemmas.Str.Parse.{digits_value-take-le}
use Rattle.tm_syntax.specs.Grammar.Parts.{below_limit}

pub too_large : (n : ℕ) → 2 ^ 64 ≤ n → below_limit n ≡ None
too_large n h = grind (arith, nat_tests)

pub fits : (n : ℕ) → n < 2 ^ 64 → below_limit n ≡ Some n
fits n h = grind (arith, nat_tests)

-- where some of the digits are too large already, all of them are
too_many : (base : ℕ) (digits : List ℕ) (i : ℕ) → 1 ≤ base → i < length digits →
    2 ^ 64 ≤ digits_value base (take i digits) * base + digit_value (get_or digits i 0) →
    below_limit (digits_value base digits) ≡ None
too_many base digits i some within large =
    let more = digits_value_more base digits i within in
    let all = digits_value-take-le base digits (i + 1) some in
    too_large (digits_value base digits) (omega arith)

pub large_product : (base : ℕ) (digits : List ℕ) (i value : ℕ) → 1 ≤ base → i < length digits →
    value ≡ digits_value base (take i digits) → ¬ (value * base < 2 ^ 64) →
    below_limit (digits_value base digits) ≡ None
large_product base digits i value some within is large =
    let same = ap (λ v. v * base) is in
    too_many base digits i some within (omega arith)

pub large_sum : (base : ℕ) (digits : List ℕ) (i value product digit : ℕ) → 1 ≤ base → i < length digits →
    value ≡ digits_value base (take i digits) → product ≡ value * base → digit ≡ digit_value (get_or digits i 0) →
    ¬ (product + digit < 2 ^ 64) → below_limit (digits_value base digits) ≡ None
large_sum base digits i value product digit some within is product_is digit_is large =
    let same = ap (λ v. v * base) is in
    too_many base digits i some within (omega arith)

pub one_digit : (base : ℕ) (digits : List ℕ) (i value product digit sum : ℕ) → i < length digits →
    value ≡ digits_value base (take i digits) → product ≡ value * base → digit ≡ digit_value (get_or digits i 0) →
    sum ≡ product + digit → sum ≡ digits_value base (take (i + 1) digits)
one_digit base digits i value product digit sum within is product_is digit_is sum_is =
    let same = ap (λ v. v * base) is in
    let more = digits_value_more base digits i within in
    omega arith

pub all_digits : (base : ℕ) (digits : List ℕ) (i value : ℕ) → length digits ≤ i →
    value ≡ digits_value base (take i digits) → value < 2 ^ 64 → Some value ≡ below_limit (digits_value base digits)
all_digits base digits i value end is below =
    let all = ap (digits_value base) (take_all i digits end) in
    let same : value ≡ digits_value base digits = is ∙ all in
    ap Some same ∙ sym (fits (digits_value base digits) (omega arith))

-- Decimal numbers without leading zeros.
use Rattle.std.proofs.Common.{◌≡◌, ◌↔◌, ℕ, ◌+◌, ◌-◌, ◌*◌, ◌^◌, ◌<◌, ◌≤◌, true, false, Some, None, ◌==◌, IsTrue, List, [], ◌∷◌, ◌++◌, length, get_or, take, refl, sym, ap, ◌∙◌, true≢false, arith}
use Rattle.std.specs.Char.{digit_value, is_ascii_digit}
use Rattle.std.specs.Fmt.{decimal}
use Rattle.std.specs.List.{list_all, prefix_len}
use Rattle.std.specs.Str.Parse.{AllDigits, digits_value}
use Rattle.std.proofs.lemmas.Bool.{and_parts, and_from, cond-true, cond-false}
use Rattle.std.proofs.lemmas.Bool.Decides.{nat_tests, Decides-eqb}
use Rattle.std.proofs.lemmas.Fmt.{decimal_is_IsNumeral, decimal-digits_value}
use Rattle.std.proofs.lemmas.Int.Digits.{digits_value_more}
use Rattle.std.proofs.lemmas.List.{take_all}
use Rattle.std.proofs.lemmas.Str.{digit_value_digit}
use Rattle.std.proofs.lemmas.Str.Parse.{digits_value-take-le, digit_from_value, digit_at, IsNumeralModel, numerals_by_value, tells_digits}
use Rattle.tm_syntax.specs.Grammar.Parts.{below_limit}
use Rattle.tm_cir.proofs.Text.Expressions.{same_inside}
use Rattle.tm_cparse.specs.Cut.{IsNumber}

own : IsNumeralModel (AllDigits 10) (digits_value 10)
own = numerals_by_value (AllDigits 10) tells_digits

-- digits are those of the number that they write
pub spelled_decimal : (ds : List ℕ) → IsNumber ds → digits_value 10 ds < 2 ^ 64 → decimal (digits_value 10 ds) ≡ ds
spelled_decimal ds is small = decimal-digits_value own ds is.are.1 is.are.0 is.plain small

too_large : (n : ℕ) → 2 ^ 64 ≤ n → below_limit n ≡ None
too_large n h = grind (arith, nat_tests)

fits : (n : ℕ) → n < 2 ^ 64 → below_limit n ≡ Some n
fits n h = grind (arith, nat_tests)

-- a number that is read is what the digits write, and below 2 ^ 64
read_small : (n v : ℕ) → Some v ≡ below_limit n → n < 2 ^ 64
read_small n v is = grind (arith, nat_tests)

pub read_is : (n v : ℕ) → Some v ≡ below_limit n → (v ≡ n) × (n < 2 ^ 64)
read_is n v is = let small = read_small n v is in (same_inside (is ∙ fits n small), small)

pub read_none : (n : ℕ) → None ≡ below_limit n → 2 ^ 64 ≤ n
read_none n is = grind (arith, nat_tests)

-- digit by digit
pub digit_is : (ds : List ℕ) (i : ℕ) → IsNumber ds → i < length ds →
    (48 ≤ get_or ds i 0) × (digit_value (get_or ds i 0) ≡ get_or ds i 0 - 48)
digit_is ds i is within =
    let range = digit_at ds i is.are.1 within in
    (range.0, omega (arith, digit_value_digit (get_or ds i 0) range, range.0))

too_many : (ds : List ℕ) (i : ℕ) → i < length ds →
    2 ^ 64 ≤ digits_value 10 (take i ds) * 10 + digit_value (get_or ds i 0) → below_limit (digits_value 10 ds) ≡ None
too_many ds i within large =
    too_large (digits_value 10 ds)
    (omega (arith, digits_value_more 10 ds i within, digits_value-take-le 10 ds (i + 1) (omega arith)))

pub large_product : (ds : List ℕ) (i value : ℕ) → i < length ds → value ≡ digits_value 10 (take i ds) →
    ¬ (value * 10 < 2 ^ 64) → below_limit (digits_value 10 ds) ≡ None
large_product ds i value within is large = too_many ds i within (omega arith)

pub large_sum : (ds : List ℕ) (i value product digit : ℕ) → IsNumber ds → i < length ds →
    value ≡ digits_value 10 (take i ds) → product ≡ value * 10 → digit ≡ get_or ds i 0 - 48 →
    ¬ (product + digit < 2 ^ 64) → below_limit (digits_value 10 ds) ≡ None
large_sum ds i value product digit number within is product_is digit_so large =
    too_many ds i within (omega (arith, (digit_is ds i number within).1))

pub one_digit : (ds : List ℕ) (i value product digit sum : ℕ) → IsNumber ds → i < length ds →
    value ≡ digits_value 10 (take i ds) → product ≡ value * 10 → digit ≡ get_or ds i 0 - 48 → sum ≡ product + digit →
    sum ≡ digits_value 10 (take (i + 1) ds)
one_digit ds i value product digit sum number within is product_is digit_so sum_is =
    omega (arith, digits_value_more 10 ds i within, (digit_is ds i number within).1)

pub all_digits : (ds : List ℕ) (i value : ℕ) → length ds ≤ i → value ≡ digits_value 10 (take i ds) → value < 2 ^ 64 →
    Some value ≡ below_limit (digits_value 10 ds)
all_digits ds i value end is below =
    let same : value ≡ digits_value 10 ds = is ∙ ap (digits_value 10) (take_all i ds end) in
    ap Some same ∙ sym (fits (digits_value 10 ds) (omega arith))

-- whether digits are those of a number
pub exact_read : (ds : List ℕ) (v k w : ℕ) → IsNumber ds → Some v ≡ below_limit (digits_value 10 ds) → k < 2 ^ 32 →
    w ≡ k → IsTrue (v == w) ↔ (decimal k ≡ ds)
exact_read ds v k w number is small wide =
    let read = read_is (digits_value 10 ds) v is in (
      λ same.
          let equal : v ≡ k = (Decides-eqb v w).0 same ∙ wide in
          ap decimal (sym equal ∙ read.0) ∙ spelled_decimal ds number read.1,
      λ same.
          let value : digits_value 10 ds ≡ k =
          sym (ap (digits_value 10) same) ∙ (decimal_is_IsNumeral k (omega arith)).1 in
          (Decides-eqb v w).1 (read.0 ∙ value ∙ sym wide),
    )

pub exact_none : (ds : List ℕ) (k : ℕ) → None ≡ below_limit (digits_value 10 ds) → k < 2 ^ 32 →
    IsTrue false ↔ (decimal k ≡ ds)
exact_none ds k none small = (
  λ wrong. absurd (true≢false (sym wrong)),
  λ same.
      let value : digits_value 10 ds ≡ k =
      sym (ap (digits_value 10) same) ∙ (decimal_is_IsNumeral k (omega arith)).1 in
      absurd (omega (arith, read_none (digits_value 10 ds) none)),
)

-- a decimal digit, as a test
pub is_digit : (b : ℕ) → is_ascii_digit b ≡ true → digit_value b < 10
is_digit b is = grind (arith, nat_tests)

pub digit_passes : (b : ℕ) → digit_value b < 10 → is_ascii_digit b ≡ true
digit_passes b small = let range = digit_from_value b small in
    let low = range.0 in let high = range.1 in grind (arith, nat_tests)

pub all_pass : (ds : List ℕ) → AllDigits 10 ds → list_all is_ascii_digit ds ≡ true
all_pass [] are = refl
all_pass (d ∷ ds) are =
    and_from (is_ascii_digit d) (list_all is_ascii_digit ds) (digit_passes d are.0) (all_pass ds are.1)

pub all_are : (ds : List ℕ) → list_all is_ascii_digit ds ≡ true → AllDigits 10 ds
all_are [] are = tt
all_are (d ∷ ds) are =
    let parts = and_parts (is_ascii_digit d) (list_all is_ascii_digit ds) are in
    (is_digit d parts.0, all_are ds parts.1)

-- digits in front of another byte are all that stand in front
pub digits_in_front : (ds behind : List ℕ) (b : ℕ) → AllDigits 10 ds → is_ascii_digit b ≡ false →
    prefix_len is_ascii_digit (ds ++ b ∷ behind) ≡ length ds
digits_in_front [] behind b are other = cond-false (is_ascii_digit b) _ 0 other
digits_in_front (d ∷ ds) behind b are other =
    let first = cond-true (is_ascii_digit d) (1 + prefix_len is_ascii_digit (ds ++ b ∷ behind)) 0
    (digit_passes d are.0) in
    let others = digits_in_front ds behind b are.1 other in
    omega arith

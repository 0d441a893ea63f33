-- Digits, one after another.
use Rattle.std.proofs.Common.{◌≡◌, ℕ, suc, ◌+◌, ◌-◌, ◌*◌, ◌^◌, ◌<◌, ◌≤◌, Bool, true, false, ◌&&◌, nat_lt, Some, None}
use Rattle.std.proofs.Common.{List, [], ◌∷◌, length, drop, get_or, refl, sym, ap, ◌∙◌, arith, drop-cons}
use Rattle.std.specs.Bool.{then_some}
use Rattle.std.specs.Char.{is_ascii_digit}
use Rattle.std.specs.Str.{all_ascii_digits}
use Rattle.std.proofs.lemmas.Bool.{lt-ltb}
use Rattle.std.proofs.lemmas.Bool.Decides.{nat_tests}
use Rattle.std.proofs.lemmas.List.{drop_all}
use Rattle.tm_play.specs.Numbers.{value_after, digits_after}

-- digits that follow make a number no smaller
value_grows : (n : ℕ) (ds : List ℕ) → n ≤ value_after n ds
value_grows n [] = omega arith
value_grows n (d ∷ ds) = omega (arith, value_grows (n * 10 + (d - 48)) ds)

grows_beyond : (m v k : ℕ) → m ≤ v → nat_lt m k ≡ false → nat_lt v k ≡ false
grows_beyond m v k le beyond = grind (arith, nat_tests)

guard_none : (b a t u : Bool) (x y : ℕ) → then_some ((b && true) && t) x ≡ None → (t ≡ false → u ≡ false) →
    then_some ((b && a) && u) y ≡ None
guard_none false a t u x y none grows = refl
guard_none true false t u x y none grows = refl
guard_none true true false u x y none grows = rw (grows refl) refl
guard_none true true true u x y none grows = cc

guard_some : (b a t u : Bool) (x y m : ℕ) → then_some ((b && true) && t) x ≡ Some m →
    then_some ((b && a) && u) y ≡ then_some (a && u) y
guard_some false a t u x y m some = cc
guard_some true a t u x y m some = refl

guard_value : (b : Bool) (x m : ℕ) → then_some b x ≡ Some m → x ≡ m
guard_value false x m some = cc
guard_value true x m some = cc

-- no number begins with one that is none
pub digits_none : (n d : ℕ) (ds : List ℕ) → digits_after n (d ∷ []) ≡ None → digits_after n (d ∷ ds) ≡ None
digits_none n d ds none =
    guard_none (is_ascii_digit d) (all_ascii_digits ds) (nat_lt (n * 10 + (d - 48)) (2 ^ 64))
    (nat_lt (value_after (n * 10 + (d - 48)) ds) (2 ^ 64)) (n * 10 + (d - 48)) (value_after (n * 10 + (d - 48)) ds)
    none
    (grows_beyond (n * 10 + (d - 48)) (value_after (n * 10 + (d - 48)) ds) (2 ^ 64)
    (value_grows (n * 10 + (d - 48)) ds))

-- a number goes on behind its first digit
pub digits_some : (n d m : ℕ) (ds : List ℕ) → digits_after n (d ∷ []) ≡ Some m →
    digits_after n (d ∷ ds) ≡ digits_after m ds
digits_some n d m ds some =
    guard_some (is_ascii_digit d) (all_ascii_digits ds) (nat_lt (n * 10 + (d - 48)) (2 ^ 64))
    (nat_lt (value_after (n * 10 + (d - 48)) ds) (2 ^ 64)) (n * 10 + (d - 48)) (value_after (n * 10 + (d - 48)) ds)
    m some
    ∙ ap (λ k. digits_after k ds) (guard_value _ (n * 10 + (d - 48)) m some)

-- what is no number with the byte at a place of a text is none with all bytes from that place on
pub digits_none_at : (field : List ℕ) (i n d : ℕ) → i < length field → d ≡ get_or field i 0 →
    digits_after n (d ∷ []) ≡ None → digits_after n (drop i field) ≡ None
digits_none_at field i n d within is none =
    rw (drop-cons field i 0 within, sym is) (digits_none n d (drop (suc i) field) none)

ends_at : (b : Bool) (n : ℕ) → b ≡ true → then_some b n ≡ Some n
ends_at b n is = rw is refl

-- behind the last digit the number is complete
pub digits_end_at : (field : List ℕ) (i n : ℕ) → length field ≤ i → n < 2 ^ 64 → digits_after n (drop i field) ≡ Some n
digits_end_at field i n beyond below =
    rw (drop_all i field beyond) (ends_at (nat_lt n (2 ^ 64)) n (lt-ltb n (2 ^ 64) below))

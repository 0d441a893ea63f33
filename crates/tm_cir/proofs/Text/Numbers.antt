-- The number that digits in front of a text write.
use Rattle.std.proofs.Common.{◌≡◌, ℕ, ◌+◌, ◌*◌, ◌^◌, ◌<◌, Bool, true, false, cond, ltb, ◌==◌, ◌&&◌, ◌||◌, List, [], ◌∷◌, ◌++◌, length, refl, ap, ap₂, sym, subst, ◌∙◌, true≢false, append_assoc, lt-ltb, ltb-true, le-leb, arith}
use Rattle.std.specs.Fmt.{decimal}
use Rattle.std.specs.Char.{digit_value}
use Rattle.std.specs.Int.{is_in_range}
use Rattle.std.specs.Str.Parse.{AllDigits, digits_value_after}
use Rattle.std.proofs.lemmas.Fmt.{decimal_is_IsNumeral}
use Rattle.std.proofs.lemmas.Str.Parse.{digit_from_value}
use Rattle.tm_syntax.specs.Tokens.{continues_name}
use Rattle.tm_cir.specs.Text.Spelling.{BeginsNoWord}

abbrev is_digit : ℕ → Bool
is_digit b = ltb (digit_value b) 10

-- whether a digit stands in front
abbrev pub begins_digit : List ℕ → Bool
begins_digit [] = false
begins_digit (b ∷ bs) = is_digit b

abbrev number_after : ℕ → List ℕ → ℕ
number_after n [] = n
number_after n (b ∷ bs) = cond (is_digit b) (number_after (n * 10 + digit_value b) bs) n

-- the number that the digits in front write
abbrev pub number_in_front : List ℕ → ℕ
number_in_front text = number_after 0 text

number_is : (n : ℕ) (ds rest : List ℕ) → AllDigits 10 ds → begins_digit rest ≡ false →
    number_after n (ds ++ rest) ≡ digits_value_after 10 n ds
number_is n [] [] digits ends = refl
number_is n [] (b ∷ bs) digits ends = ap (λ (v : Bool). cond v (number_after (n * 10 + digit_value b) bs) n) ends
number_is n (c ∷ cs) rest digits ends =
    ap (λ (v : Bool). cond v (number_after (n * 10 + digit_value c) (cs ++ rest)) n)
    (lt-ltb (digit_value c) 10 digits.0)
    ∙ number_is (n * 10 + digit_value c) cs rest digits.1 ends

digit_is : (ds rest : List ℕ) → 0 < length ds → AllDigits 10 ds → begins_digit (ds ++ rest) ≡ true
digit_is [] rest some digits = absurd (omega arith)
digit_is (c ∷ cs) rest some digits = lt-ltb (digit_value c) 10 digits.0

-- a number's digits are read back, where no digit follows
pub number_read : (k : ℕ) (rest : List ℕ) → k < 2 ^ 64 → begins_digit rest ≡ false →
    number_in_front (decimal k ++ rest) ≡ k
number_read k rest small ends =
    let is = decimal_is_IsNumeral k small in number_is 0 (decimal k) rest is.0.1 ends ∙ is.1

-- a number begins with a digit
pub digit_read : (k : ℕ) (rest : List ℕ) → k < 2 ^ 64 → begins_digit (decimal k ++ rest) ≡ true
digit_read k rest small = let is = decimal_is_IsNumeral k small in digit_is (decimal k) rest is.0.0 is.0.1

digit_continues : (b : ℕ) → digit_value b < 10 → continues_name b ≡ true
digit_continues b small =
    let within = digit_from_value b small in
    ap₂ (λ (p q : Bool). (((p && q) || is_in_range 65 90 b) || is_in_range 97 122 b) || b == 95)
    (le-leb 48 b within.0) (le-leb b 57 within.1)

-- a byte that continues no name is no digit
pub no_digit : (rest : List ℕ) → BeginsNoWord rest → begins_digit rest ≡ false
no_digit [] ends = refl
no_digit (b ∷ bs) ends = of (is_digit b) refl
  where
    of : (v : Bool) → is_digit b ≡ v → is_digit b ≡ false
    of true is = absurd (true≢false (sym (digit_continues b (ltb-true (digit_value b) 10 is)) ∙ ends))
    of false is = is

-- a number and more in one list
pub numbered : (k : ℕ) (more rest : List ℕ) → k < 2 ^ 64 → begins_digit (more ++ rest) ≡ false →
    (begins_digit ((decimal k ++ more) ++ rest) ≡ true) × (number_in_front ((decimal k ++ more) ++ rest) ≡ k)
numbered k more rest small ends =
    subst (λ (text : List ℕ). (begins_digit text ≡ true) × (number_in_front text ≡ k))
    (sym (append_assoc (decimal k) more rest))
    (digit_read k (more ++ rest) small, number_read k (more ++ rest) small ends)

-- A path is taken apart at its last dot: neither words nor numbers have dots.
use Rattle.std.proofs.Common.{◌≡◌, ℕ, zero, suc, ◌+◌, ◌/◌, ◌%◌, ◌^◌, ◌<◌, ◌≤◌, Bool, true, false, List, [], ◌∷◌, ◌++◌, ◌⊎◌, inl, inr, length, drop, refl, sym, ap, ◌∙◌, subst, cond, arith, ⊎_elim, ◌==◌}
use Rattle.std.specs.Prelude.{nat_lt}
use Rattle.std.specs.Fmt.{decimal, digits, digits_onto, digit_glyph}
use Rattle.std.specs.List.{AllByRecursion}
use Rattle.std.proofs.Math.Nat.{pow-suc, one-le-pow}
use Rattle.std.specs.Str.Parse.{digits_value}
use Rattle.std.proofs.lemmas.Bool.{cases_lt}
use Rattle.std.proofs.lemmas.Bool.Decides.{nat_tests}
use Rattle.std.proofs.lemmas.Fmt.{decimal_is_IsNumeral_wide, length-decimal-le}
use Rattle.std.proofs.lemmas.List.Elements.{recursion_from_All}
use Rattle.tm_syntax.specs.Tokens.{begins_name, continues_name, IsWordLike}
use Rattle.tm_syntax.specs.Design.{member_path}
use Rattle.tm_typing.proofs.Fitting.{contrary, not_empty}
use Rattle.tm_typing.proofs.Listed.{In, first_of, in_behind, is_first_or_later, holds_in}

-- bytes without a dot
abbrev pub HasNoDot : List ℕ → Type 0
HasNoDot bytes = In 46 bytes → ⊥

-- a word has no dot
pub word_has_no_dot : (bytes : List ℕ) → IsWordLike bytes → HasNoDot bytes
word_has_no_dot [] word i = absurd word
word_has_no_dot (b ∷ bs) word i = by (is_first_or_later bs i)
  where
    by : (b ≡ 46) ⊎ In 46 bs → ⊥
    by (inl is) = contrary (subst (λ n. begins_name n ≡ true) is word.0)
    by (inr j) =
        contrary (holds_in (λ n. continues_name n ≡ true) bs
        (recursion_from_All (λ n. continues_name n ≡ true) bs word.1) j)

-- a digit
pub record IsDigit (b : ℕ) : Type 0 where
  pub low : 48 ≤ b
  pub high : b ≤ 57

glyph_is_digit : (n : ℕ) → n < 10 → IsDigit (digit_glyph false n)
glyph_is_digit n below = by (nat_lt n 10) refl
  where
    by : (b : Bool) → nat_lt n 10 ≡ b → IsDigit (cond b (48 + n) (87 + n))
    by true e = record { low = omega arith; high = omega arith }
    by false e = absurd (grind (arith, nat_tests))

onto_digits : (k n : ℕ) (bytes : List ℕ) → AllByRecursion IsDigit bytes →
    AllByRecursion IsDigit (digits_onto k 10 false n bytes)
onto_digits zero n bytes all = all
onto_digits (suc k) n bytes all = by (n / 10 == 0) (onto_digits k (n / 10) (digit_glyph false (n % 10) ∷ bytes) more)
  where
    more : AllByRecursion IsDigit (digit_glyph false (n % 10) ∷ bytes)
    more = (glyph_is_digit (n % 10) (omega arith), all)

    by : (b : Bool) → AllByRecursion IsDigit (digits_onto k 10 false (n / 10) (digit_glyph false (n % 10) ∷ bytes)) →
        AllByRecursion IsDigit (cond b (digit_glyph false (n % 10) ∷ bytes)
        (digits_onto k 10 false (n / 10) (digit_glyph false (n % 10) ∷ bytes)))
    by true deeper = more
    by false deeper = deeper

-- a number is written in digits
decimal_digits : (n : ℕ) → AllByRecursion IsDigit (decimal n)
unfolding digits
decimal_digits n = onto_digits 64 n [] tt

-- so it has no dot, and is no word
pub number_has_no_dot : (n : ℕ) → HasNoDot (decimal n)
number_has_no_dot n i = let digit = holds_in IsDigit (decimal n) (decimal_digits n) i in omega (arith, digit.low)

begins_no_name : (b : ℕ) → IsDigit b → begins_name b ≡ true → ⊥
begins_no_name b digit e = grind (arith, nat_tests, digit.low, digit.high)

pub number_is_no_word : {X : Type 0} (n : ℕ) (bytes : List ℕ) → IsWordLike bytes → decimal n ≡ bytes → X
number_is_no_word n [] word e = absurd word
number_is_no_word n (b ∷ bs) word e =
    absurd (begins_no_name b (subst (AllByRecursion IsDigit) e (decimal_digits n)).0 word.0)

-- a number from 10 to the power of the digits on is written in as many digits as there may be
long_number : (k n : ℕ) (bytes : List ℕ) → 10 ^ k ≤ n → length (digits_onto k 10 false n bytes) ≡ k + length bytes
long_number zero n bytes long = omega arith
long_number (suc k) n bytes long =
    by (n / 10 == 0) refl (long_number k (n / 10) (digit_glyph false (n % 10) ∷ bytes) high)
  where
    high : 10 ^ k ≤ n / 10
    high = omega (arith, pow-suc 10 k)

    by : (b : Bool) → (n / 10 == 0) ≡ b →
        length (digits_onto k 10 false (n / 10) (digit_glyph false (n % 10) ∷ bytes))
        ≡ k + length (digit_glyph false (n % 10) ∷ bytes) →
        length (cond b (digit_glyph false (n % 10) ∷ bytes)
        (digits_onto k 10 false (n / 10) (digit_glyph false (n % 10) ∷ bytes))) ≡ suc k + length bytes
    by true e rest =
        let none : n / 10 ≡ 0 = grind (arith, nat_tests) in
        absurd (omega (arith, high, one-le-pow k 10 (omega arith)))
    by false e rest = omega (arith, rest)

-- a number of 64 bits is told by its digits from all other numbers
pub one_number : (m n : ℕ) → n < 2 ^ 64 → decimal m ≡ decimal n → m ≡ n
unfolding digits
one_number m n small e = ⊎_elim
    (λ below. sym (decimal_is_IsNumeral_wide m below).1 ∙ ap (digits_value 10) e
    ∙ (decimal_is_IsNumeral_wide n (omega arith)).1)
    (λ above. let long : length (decimal m) ≡ 64 + 0 = long_number 64 m [] above in
    let short = length-decimal-le 20 n (omega arith) (omega arith) small in
    absurd (omega (arith, ap length e)))
    (cases_lt m (10 ^ 64))

-- where paths are one, so are their last parts and what stands before these
last_dot : (a b m n : List ℕ) → HasNoDot m → HasNoDot n → a ++ 46 ∷ m ≡ b ++ 46 ∷ n → (a ≡ b) × (m ≡ n)
last_dot [] [] m n p q e = (refl, ap (drop 1) e)
last_dot [] (y ∷ b) m n p q e =
    absurd (p (subst (In 46) (sym (ap (drop 1) e)) (in_behind b (46 ∷ n) first_of)))
last_dot (x ∷ a) [] m n p q e = absurd (q (subst (In 46) (ap (drop 1) e) (in_behind a (46 ∷ m) first_of)))
last_dot (x ∷ a) (y ∷ b) m n p q e =
    let rest = last_dot a b m n p q (ap (drop 1) e) in
    let first : x ≡ y = cc in
    ((λ i. first i ∷ rest.0 i), rest.1)

pub last_part : (a b m n : List ℕ) → HasNoDot m → HasNoDot n → member_path a m ≡ member_path b n →
    (a ≡ b) × (m ≡ n)
last_part [] [] m n p q e = (refl, e)
last_part [] (y ∷ b) m n p q e = absurd (p (subst (In 46) (sym e) (in_behind (y ∷ b) (46 ∷ n) first_of)))
last_part (x ∷ a) [] m n p q e = absurd (q (subst (In 46) e (in_behind (x ∷ a) (46 ∷ m) first_of)))
last_part (x ∷ a) (y ∷ b) m n p q e = last_dot (x ∷ a) (y ∷ b) m n p q e

-- what is behind a dot is the last part
pub behind_dot : (base name part : List ℕ) → IsWordLike name →
    member_path base name ++ 46 ∷ part ≡ member_path (member_path base name) part
behind_dot [] [] part word = absurd word
behind_dot [] (c ∷ cs) part word = refl
behind_dot (b ∷ bs) name part word = refl

-- the path of what an instance holds is not empty
pub member_there : {X : Type 0} (base name : List ℕ) → IsWordLike name → member_path base name ≡ [] → X
member_there [] [] word e = absurd word
member_there [] (c ∷ cs) word e = not_empty e
member_there (b ∷ bs) name word e = not_empty e

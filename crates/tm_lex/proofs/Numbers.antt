-- Numbers at the front.
use Rattle.std.proofs.Common.{◌≡◌, ℕ, suc, ◌+◌, ◌<◌, ◌≤◌, inl, inr, Some, None, List, [], ◌∷◌, ◌++◌, length, get_or, take, drop, codes, ap, ◌∙◌, ⊎_elim, arith}
use Rattle.std.specs.Char.{is_ascii_digit, is_ascii_hexdigit}
use Rattle.std.specs.List.{prefix_len}
use Rattle.std.proofs.lemmas.Bool.{cond-true}
use Rattle.std.proofs.lemmas.List.{length-take-le}
use Rattle.std.proofs.lemmas.List.Sums.{prefix_len-le-length, list_all-from_AllPass}
use Rattle.tm_lex.specs.declared.class.Class.TheVariants.{Digit}
use Rattle.tm_lex.specs.Class.{class_of}
use Rattle.tm_lex.specs.Front.{IsFirstPiece}
use Rattle.tm_lex.proofs.Classes.{AtMost, first_from_at_most, begins, digit_is, length-le-prefix_len, AllPass-prefix}
use Rattle.tm_syntax.specs.declared.token.TokenKind.TheVariants as token
use Rattle.tm_syntax.specs.Tokens.{IsDecimal, IsHexadecimal}

-- of the pieces that begin with a digit, each is a number: so it is enough to bound those
numbers_alone : (bytes : List ℕ) (n : ℕ) → class_of (get_or bytes 0 0) ≡ Digit →
    ((piece after : List ℕ) → IsDecimal piece → bytes ≡ piece ++ after → length piece ≤ n) →
    ((piece after : List ℕ) → IsHexadecimal piece → bytes ≡ piece ++ after → length piece ≤ n) → AtMost bytes n
unfolding AtMost
numbers_alone bytes n e decimal hexadecimal None piece after is whole = let wrong =
    begins None piece after bytes Digit is whole e in grind arith
numbers_alone bytes n e decimal hexadecimal (Some token.Name) piece after is whole = let wrong =
    begins (Some token.Name) piece after bytes Digit is whole e in cc
numbers_alone bytes n e decimal hexadecimal (Some token.Number) piece after is whole =
    ⊎_elim (λ is. decimal piece after is whole) (λ is. hexadecimal piece after is whole) is
numbers_alone bytes n e decimal hexadecimal (Some (token.Word w)) piece after is whole = let wrong =
    begins (Some (token.Word w)) piece after bytes Digit is whole e in cc
numbers_alone bytes n e decimal hexadecimal (Some (token.Sign s)) piece after is whole = let wrong =
    begins (Some (token.Sign s)) piece after bytes Digit is whole e in cc

-- a decimal number is no longer than the digits at the front
decimal_at_most : (bytes piece after : List ℕ) → IsDecimal piece → bytes ≡ piece ++ after →
    length piece ≤ prefix_len is_ascii_digit bytes
decimal_at_most bytes piece after is whole =
    rw whole (length-le-prefix_len is_ascii_digit piece after (list_all-from_AllPass is_ascii_digit piece is.1))

-- a hexadecimal number at the front: its digits are among those behind the `0x`
hexadecimal_digits : (bytes piece after : List ℕ) → (is : IsHexadecimal piece) → bytes ≡ piece ++ after →
    (length piece ≡ suc (suc (length is.0))) × (length is.0 ≤ prefix_len is_ascii_hexdigit (drop 2 bytes))
hexadecimal_digits bytes piece after is whole =
    let rest : drop 2 bytes ≡ is.0 ++ after = ap (drop 2) whole ∙ ap (λ p. drop 2 (p ++ after)) is.3 in (
      ap length is.3,
      rw rest
          (length-le-prefix_len is_ascii_hexdigit is.0 after (list_all-from_AllPass is_ascii_hexdigit is.0 is.2)),
    )

-- the digits at the front are at least one
digits_some : (bytes : List ℕ) → 0 < length bytes → class_of (get_or bytes 0 0) ≡ Digit →
    0 < prefix_len is_ascii_digit bytes
digits_some [] some e = absurd (omega arith)
digits_some (b ∷ bs) some e =
    let more = cond-true (is_ascii_digit b) (1 + prefix_len is_ascii_digit bs) 0 (digit_is b e) in
    omega arith

-- where no hexadecimal number begins, the digits at the front are the number
pub first_decimal : (bytes : List ℕ) → 0 < length bytes → class_of (get_or bytes 0 0) ≡ Digit →
    ((rest : List ℕ) → bytes ≡ codes "0x" ++ rest → prefix_len is_ascii_hexdigit rest ≡ 0) →
    IsFirstPiece bytes (Some token.Number) (prefix_len is_ascii_digit bytes)
first_decimal bytes some e none =
    let n = prefix_len is_ascii_digit bytes in
    let fits = prefix_len-le-length is_ascii_digit bytes in
    let nonempty = digits_some bytes some e in
    first_from_at_most bytes (Some token.Number) n fits
    (inl (omega (arith, length-take-le n bytes fits), AllPass-prefix is_ascii_digit bytes))
    (numbers_alone bytes n e (decimal_at_most bytes) (λ piece after is whole.
    let rest : bytes ≡ codes "0x" ++ (is.0 ++ after) = whole ∙ ap (λ p. p ++ after) is.3 in
    let digits = length-le-prefix_len is_ascii_hexdigit is.0 after
    (list_all-from_AllPass is_ascii_hexdigit is.0 is.2) in
    let some = is.1 in
    absurd (omega (arith, none (is.0 ++ after) rest))))

-- behind a `0x`, at least one hexadecimal digit makes a hexadecimal number
pub first_hexadecimal : (bytes rest : List ℕ) → bytes ≡ codes "0x" ++ rest → class_of (get_or bytes 0 0) ≡ Digit →
    0 < prefix_len is_ascii_hexdigit rest →
    IsFirstPiece bytes (Some token.Number) (2 + prefix_len is_ascii_hexdigit rest)
first_hexadecimal bytes rest begin e some =
    let n = prefix_len is_ascii_hexdigit rest in
    let fits = prefix_len-le-length is_ascii_hexdigit rest in
    let two : 2 + n ≡ suc (suc n) = omega arith in
    let len : length bytes ≡ suc (suc (length rest)) = ap length begin in
    let front : take (2 + n) bytes ≡ codes "0x" ++ take n rest =
    ap (λ m. take m bytes) two ∙ ap (take (suc (suc n))) begin in
    first_from_at_most bytes (Some token.Number) (2 + n) (omega arith)
    (inr (take n rest, omega (arith, length-take-le n rest fits), AllPass-prefix is_ascii_hexdigit rest, front))
    (numbers_alone bytes (2 + n) e
    (λ piece after is whole.
    let below = decimal_at_most bytes piece after is whole in
    let one : prefix_len is_ascii_digit bytes ≡ 1 = ap (prefix_len is_ascii_digit) begin in
    omega arith)
    (λ piece after is whole.
    let digits = hexadecimal_digits bytes piece after is whole in
    let same : drop 2 bytes ≡ rest = ap (drop 2) begin in
    omega (arith, digits.0, digits.1, ap (prefix_len is_ascii_hexdigit) same)))
